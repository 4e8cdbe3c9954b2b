-- What the tellings of a history lead to.
use Rattle.std.proofs.Common.{◌≡◌, List, [], ◌∷◌, ◌++◌, Option, Some, refl, sym, subst, ap, ◌∙◌}
use Rattle.std.specs.FinMap.{from_entries}
use Rattle.row_store.specs.Rows.{Content, after_all}
use Rattle.session_rows.specs.Durable.{Durable}
use Rattle.law_sessions.specs.Leading.{AreExact, ChangesAreExact, ChangesAreMade, ChangesLead, after_plains, told_rows}
use Rattle.mqtt_sessions.specs.Saved.{main_of}
use Rattle.mqtt_sessions.specs.State.{watched}
use Rattle.law_sessions.specs.Histories.{Point, Move, calls, tells, Moves, History, Begins, durable_at}
use Rattle.law_sessions.specs.Told.{StaysSince, ToldChangesLead, StoresTold, stored}

pub leads : StaysSince → ChangesLead → ChangesAreExact → ToldChangesLead
leads stays lead exact start moves old changes new b h t =
    let s = old.session.tracked.state in
    let since = stays start moves old b h in
    record {
      lead = ap (after_plains (from_entries (told_rows old.last))) t.tells.named ∙ lead old.last old.session.told s.kept.client (main_of s) (watched old.session.tracked) t.tells.places since t.tells.listed;
      exact = subst (AreExact old.last) (sym t.tells.named) (exact old.last old.session.told s.kept.client (main_of s) (watched old.session.tracked) t.tells.places since t.tells.listed);
    }

-- ---- a store
history-then : (a : Point) (ms : List Move) (b : Point) (m : Move) (c : Point) → History a ms b → Moves b m c → History a (ms ++ m ∷ []) c
history-then a [] b m c h n = (c, subst (λ (x : Point). Moves x m c) h n, refl)
history-then a (x ∷ ms) b m c h n = (h.0, h.1, history-then h.0 ms b m c h.2 n)

module _ (lead : ToldChangesLead) (made : ChangesAreMade) (start : Point) (begins : Begins start) where
  has : Option Durable → Content
  has last = from_entries (told_rows last)

  store-from : (before : List Move) (p : Point) (ms : List Move) (end : Point) → History start before p → History p ms end → stored (has p.last) ms ≡ has end.last
  unfolding has
  store-from before p [] end b h = ap (λ (x : Point). has x.last) (sym h)
  store-from before p (calls e r ∷ ms) end b h =
      ap (λ (l : Option Durable). stored (has l) ms) (sym h.1.last) ∙ store-from (before ++ calls e r ∷ []) h.0 ms end (history-then start before p (calls e r) h.0 b h.1) h.2
  store-from before p (tells changes ∷ ms) end b h =
      let led : after_all (has p.last) changes ≡ has (Some (durable_at p)) = made (has p.last) changes ∙ (lead start before p changes h.0 begins b h.1).lead in
      ap (λ (c : Content). stored c ms) (led ∙ ap has (sym h.1.last)) ∙ store-from (before ++ tells changes ∷ []) h.0 ms end (history-then start before p (tells changes) h.0 b h.1) h.2

pub stores : ToldChangesLead → ChangesAreMade → StoresTold
unfolding has
stores lead made start moves end b h = store-from lead made start b [] start moves end refl h
