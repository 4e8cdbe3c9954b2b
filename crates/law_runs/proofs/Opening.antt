-- The call of a session that opened an exchange.
use Rattle.std.proofs.Common.{◌≡◌, ◌⊎◌, inl, inr, ℕ, ◌==◌, ◌&&◌, Bool, true, false, cond, is_some, nat_eq, List, [], ◌∷◌, ◌++◌, refl, sym, ap, ◌∙◌, subst, append_assoc, eqb-true}
use Rattle.home_table.specs.Table.{Table}
use Rattle.mqtt_packets.specs.declared.packet.Packet.TheVariants as packets
use Rattle.mqtt_packets.specs.declared.publish.Publish.{Publish}
use Rattle.mqtt_sessions.specs.Reaction.{Reaction}
use Rattle.law_sessions.specs.Arrivals.{is_for, is_open_after, PassesBy, ComesOnce}
use Rattle.law_sessions.specs.Runs.{Event, connects, queues, rooms, takes, answers, closes, ticks, finishes, loses, Step, connected_after}
use Rattle.law_maps.proofs.Texts.{same_text}
use Rattle.node_work.specs.Acts.{Act, MomentTaken, Began, Moved, Store, Connection, Session, Bridge, Out, Named, Acknowledged, Passed, Dropped}
use Rattle.node_work.specs.Held.Sessions.{SessionStep, Begun, Called, Over}
use Rattle.law_nodes.specs.Lives.{is_client, step_in, after_act, after_move, life, lost_step}
use Rattle.law_nodes.specs.Moves.{Move, Acted, Reopened, did}
use Rattle.cluster_play.specs.Worlds.{Fate, Released, Lost, Cut, Faulted, Was_down, Restarted}
use Rattle.cluster_play.specs.Runs.{Played}
use Rattle.cluster_play.specs.Histories.{site, acts_of, moves_of, own_moves, moves_at, moves_amid}
use Rattle.law_runs.proofs.Splits.{head_is, tail_is, none_there, splits}
use Rattle.law_runs.specs.Publishing.{connected_over, StaysOpen}

-- ---- over the calls of a session

-- whether the exchange is open after them
abbrev pub open_over : Bool → ℕ → Bool → List Step → Bool
open_over on id is [] = is
open_over on id is (s ∷ ss) = open_over (connected_after on s.event s.reaction) id (is_open_after on id is s.event s.reaction) ss

-- what the last of them comes to
pub last_once : (on : Bool) (id : ℕ) (is : Bool) (xs : List Step) (s : Step) → ComesOnce on id is (xs ++ s ∷ []) → PassesBy id (open_over on id is xs) s.event s.reaction
last_once on id is [] s c = c.0
last_once on id is (x ∷ xs) s c = last_once (connected_after on x.event x.reaction) id (is_open_after on id is x.event x.reaction) xs s c.1

-- an event opens the exchange
pub record Opens (id : ℕ) (e : Event) (r : Reaction) : Type 0 where
  pub publish : Publish
  pub now : ℕ
  pub room : Bool
  pub event : e ≡ takes (packets.Publish publish) now room
  pub is_for : is_for id publish ≡ true
  pub asks : is_some r.ask ≡ true

both_true : (a b : Bool) → a && b ≡ true → (a ≡ true) × (b ≡ true)
both_true true b e = (refl, e)
both_true false b e = absurd (let z : false ≡ true = e in cc)

if_true : (b : Bool) → cond b true false ≡ true → b ≡ true
if_true true e = refl
if_true false e = e

never_true : {X : Type 0} (b : Bool) → cond b false false ≡ true → X
never_true true e = absurd (let z : false ≡ true = e in cc)
never_true false e = absurd (let z : false ≡ true = e in cc)

never : {X : Type 0} → false ≡ true → X
never e = absurd (let z = e in cc)

opens : (on : Bool) (id : ℕ) (e : Event) (r : Reaction) → is_open_after on id false e r ≡ true → Opens id e r
opens on id (connects c continued room now) r h = never h
opens on id (queues d now) r h = never h
opens on id (rooms bytes now) r h = never h
opens on id (takes (packets.Publish p) now room) r h =
    let t = both_true (is_for id p) (is_some r.ask) (if_true (is_for id p && is_some r.ask) h) in
    record { publish = p; now = now; room = room; event = refl; is_for = t.0; asks = t.1 }
opens on id (takes (packets.Pubrel a) now room) r h = never_true (on && (a.identifier == id)) h
opens on id (takes (packets.Connect p) now room) r h = never h
opens on id (takes (packets.Connack p) now room) r h = never h
opens on id (takes (packets.Puback p) now room) r h = never h
opens on id (takes (packets.Pubrec p) now room) r h = never h
opens on id (takes (packets.Pubcomp p) now room) r h = never h
opens on id (takes (packets.Subscribe p) now room) r h = never h
opens on id (takes (packets.Suback p) now room) r h = never h
opens on id (takes (packets.Unsubscribe p) now room) r h = never h
opens on id (takes (packets.Unsuback p) now room) r h = never h
opens on id (takes packets.Pingreq now room) r h = never h
opens on id (takes packets.Pingresp now room) r h = never h
opens on id (takes (packets.Disconnect p) now room) r h = never h
opens on id (takes (packets.Auth p) now room) r h = never h
opens on id (answers i codes) r h = never h
opens on id (closes now) r h = never h
opens on id (ticks now) r h = never h
opens on id (finishes now) r h = never h
opens on id loses r h = never h

pub record OpenedIn (on : Bool) (id : ℕ) (steps : List Step) : Type 0 where
  pub past : List Step
  pub step : Step
  pub since : List Step
  pub is : steps ≡ past ++ step ∷ since
  pub opens : Opens id step.event step.reaction
  pub stays : StaysOpen (connected_over on (past ++ step ∷ [])) id since

opened_or : (on : Bool) (id : ℕ) (is : Bool) (steps : List Step) → open_over on id is steps ≡ true → ((is ≡ true) × StaysOpen on id steps) ⊎ OpenedIn on id steps
opened_or on id is [] e = inl (e, tt)
opened_or on id is (s ∷ ss) e =
    elim (opened_or (connected_after on s.event s.reaction) id (is_open_after on id is s.event s.reaction) ss e) [
      | inl o ↦ by is refl o.0 o.1
      | inr o ↦ inr (record { past = s ∷ o.past; step = o.step; since = o.since; is = ap (λ zs. s ∷ zs) o.is; opens = o.opens; stays = o.stays })
    ]
  where
    by : (b : Bool) → is ≡ b → is_open_after on id is s.event s.reaction ≡ true → StaysOpen (connected_after on s.event s.reaction) id ss → ((is ≡ true) × StaysOpen on id (s ∷ ss)) ⊎ OpenedIn on id (s ∷ ss)
    by true i now rest = inl (i, (subst (λ b. is_open_after on id b s.event s.reaction ≡ true) i now, rest))
    by false i now rest = inr (record { past = []; step = s; since = ss; is = refl; opens = opens on id s.event s.reaction (subst (λ b. is_open_after on id b s.event s.reaction ≡ true) i now); stays = rest })

pub opened_in : (id : ℕ) (steps : List Step) → open_over false id false steps ≡ true → OpenedIn false id steps
opened_in id steps e = elim (opened_or false id false steps e) [ inl o ↦ never o.0 | inr o ↦ o ]

-- ---- from the calls of a session to the moves of its node

-- a call among moves
pub record IsMove (client : List ℕ) (moves : List Move) (s : Step) : Type 0 where
  pub before : List Move
  pub step : SessionStep
  pub after : List Move
  pub is : moves ≡ before ++ Acted (Session (Called step)) ∷ after
  pub same : step.client ≡ client
  pub step_is : step_in step ≡ s

abbrev InGiven : List Step → Step → List Step → Type 0
InGiven past s given = (rest : List Step) × (given ≡ past ++ s ∷ rest)

emptied : (b : Bool) (given past since : List Step) (s : Step) → cond b [] given ≡ past ++ s ∷ since → InGiven past s given
emptied true given past since s e = none_there past since s e
emptied false given past since s e = (since, e)

-- one more
grown : (given past since : List Step) (s t : Step) → given ++ t ∷ [] ≡ past ++ s ∷ since → InGiven past s given ⊎ (t ≡ s)
grown given past since s t e =
    elim (splits given (t ∷ []) past since s e) [
      | inl r ↦ inl (r.0, r.1)
      | inr r ↦ inr (at_last r.0 r.2)
    ]
  where
    at_last : (front : List Step) → t ∷ [] ≡ front ++ s ∷ since → t ≡ s
    at_last [] q = head_is q
    at_last (x ∷ front) q = none_there front since s (tail_is q)

module _ (client : List ℕ) (past since : List Step) (s : Step) (kept : lost_step ≡ s → ⊥) where
  by_call : (t : SessionStep) (b : Bool) → is_client client t.client ≡ b → (given : List Step) → cond b (given ++ step_in t ∷ []) given ≡ past ++ s ∷ since
      → InGiven past s given ⊎ ((t.client ≡ client) × (step_in t ≡ s))
  by_call t true is given e = elim (grown given past since s (step_in t) e) [ inl g ↦ inl g | inr same ↦ inr (sym (same_text client t.client is), same) ]
  by_call t false is given e = inl (since, e)

  by_act : (a : Act) (given : List Step) → after_act client a given ≡ past ++ s ∷ since → InGiven past s given ⊎ ((t : SessionStep) × (a ≡ Session (Called t)) × (t.client ≡ client) × (step_in t ≡ s))
  by_act (MomentTaken at) given e = inl (since, e)
  by_act Began given e = inl (since, e)
  by_act (Moved homes) given e = inl (since, e)
  by_act (Store a) given e = inl (since, e)
  by_act (Connection a) given e = inl (since, e)
  by_act (Session (Begun other)) given e = inl (emptied (is_client client other) given past since s e)
  by_act (Session (Called t)) given e = elim (by_call t (is_client client t.client) refl given e) [ inl g ↦ inl g | inr x ↦ inr (t, refl, x.0, x.1) ]
  by_act (Session (Over other)) given e = inl (emptied (is_client client other) given past since s e)
  by_act (Bridge a) given e = inl (since, e)
  by_act (Out o) given e = inl (since, e)
  by_act (Named number) given e = inl (since, e)
  by_act (Acknowledged other packet at grants offers) given e = inl (since, e)
  by_act (Passed m copies lost routes) given e = inl (since, e)
  by_act Dropped given e = inl (since, e)

  by_move : (m : Move) (given : List Step) → after_move client m given ≡ past ++ s ∷ since → InGiven past s given ⊎ ((t : SessionStep) × (m ≡ Acted (Session (Called t))) × (t.client ≡ client) × (step_in t ≡ s))
  by_move (Acted a) given e = elim (by_act a given e) [ inl g ↦ inl g | inr x ↦ inr (x.0, ap Acted x.1, x.2, x.3) ]
  by_move (Reopened homes) given e = elim (grown given past since s lost_step e) [ inl g ↦ inl g | inr same ↦ absurd (kept same) ]

moved : (client : List ℕ) (past : List Step) (s : Step) → (lost_step ≡ s → ⊥) → (moves : List Move) (given since : List Step) → life client moves given ≡ past ++ s ∷ since → InGiven past s given ⊎ IsMove client moves s
moved client past s kept [] given since e = inl (since, e)
moved client past s kept (m ∷ moves) given since e =
    elim (moved client past s kept moves (after_move client m given) since e) [
      | inl g ↦ elim (by_move client past g.0 s kept m given g.1) [
        | inl g ↦ inl g
        | inr x ↦ inr (record { before = []; step = x.0; after = moves; is = ap (λ n. n ∷ moves) x.1; same = x.2; step_is = x.3 })
      ]
      | inr x ↦ inr (record { before = m ∷ x.before; step = x.step; after = x.after; is = ap (λ zs. m ∷ zs) x.is; same = x.same; step_is = x.step_is })
    ]

-- ---- from moves to the acts of steps

pub record IsAct (i : ℕ) (run : List Played) (a : Act) : Type 0 where
  pub first : List Played
  pub m : Played
  pub last : List Played
  pub is : run ≡ first ++ m ∷ last
  pub at : site m.fate ≡ i
  pub before : List Act
  pub after : List Act
  pub acts : acts_of m.fate ≡ before ++ a ∷ after

abbrev IsDid : Act → List Act → Type 0
IsDid a acts = (before : List Act) × (after : List Act) × (acts ≡ before ++ a ∷ after)

same_act : (a b : Act) → Acted a ≡ Acted b → a ≡ b
same_act a b e = cc

did_acts : (acts : List Act) (ms ns : List Move) (a : Act) → did acts ≡ ms ++ Acted a ∷ ns → IsDid a acts
did_acts [] ms ns a e = none_there ms ns (Acted a) e
did_acts (x ∷ acts) [] ns a e = ([], acts, ap (λ y. y ∷ acts) (same_act x a (head_is e)))
did_acts (x ∷ acts) (m ∷ ms) ns a e = let r = did_acts acts ms ns a (tail_is e) in (x ∷ r.0, r.1, ap (λ zs. x ∷ zs) r.2)

lost_is_none : {X : Type 0} (homes : Table) (ms ns : List Move) (a : Act) → Reopened homes ∷ [] ≡ ms ++ Acted a ∷ ns → X
lost_is_none homes [] ns a e = absurd (let z : Reopened homes ≡ Acted a = head_is e in cc)
lost_is_none homes (m ∷ ms) ns a e = none_there ms ns (Acted a) (tail_is e)

acts_in : (fate : Fate) (ms ns : List Move) (a : Act) → moves_of fate ≡ ms ++ Acted a ∷ ns → IsDid a (acts_of fate)
acts_in (Released i e acts outputs) ms ns a h = did_acts acts ms ns a h
acts_in (Lost i e acts) ms ns a h = did_acts acts ms ns a h
acts_in (Cut i) ms ns a h = none_there ms ns (Acted a) h
acts_in (Faulted i fault) ms ns a h = none_there ms ns (Acted a) h
acts_in (Was_down i) ms ns a h = none_there ms ns (Acted a) h
acts_in (Restarted i homes) ms ns a h = lost_is_none homes ms ns a h

own_in : (i : ℕ) (fate : Fate) (b : Bool) → nat_eq (site fate) i ≡ b → (ms ns : List Move) (a : Act) → cond b (moves_of fate) [] ≡ ms ++ Acted a ∷ ns → (site fate ≡ i) × IsDid a (acts_of fate)
own_in i fate true is ms ns a h = (eqb-true (site fate) i is, acts_in fate ms ns a h)
own_in i fate false is ms ns a h = none_there ms ns (Acted a) h

in_run : (i : ℕ) (run : List Played) (ms ns : List Move) (a : Act) → moves_at i run ≡ ms ++ Acted a ∷ ns → IsAct i run a
in_run i [] ms ns a h = none_there ms ns (Acted a) h
in_run i (m ∷ run) ms ns a h =
    elim (splits (own_moves i m.fate) (moves_at i run) ms ns (Acted a) h) [
      | inl r ↦ (let x = own_in i m.fate (nat_eq (site m.fate) i) refl ms r.0 a r.1 in
          record { first = []; m = m; last = run; is = refl; at = x.0; before = x.1.0; after = x.1.1; acts = x.1.2 })
      | inr r ↦ (let x = in_run i run r.0 ns a r.2 in
          record { first = m ∷ x.first; m = x.m; last = x.last; is = ap (λ zs. m ∷ zs) x.is; at = x.at; before = x.before; after = x.after; acts = x.acts })
    ]

-- amid a step: in an earlier step, or among the acts before
pub in_amid : (run later : List Played) (m : Played) (before after : List Act) (a b : Act) → acts_of m.fate ≡ before ++ b ∷ after → (ms ns : List Move) → moves_amid (site m.fate) run before ≡ ms ++ Acted a ∷ ns → IsAct (site m.fate) (run ++ m ∷ later) a
in_amid run later m before after a b acts ms ns h =
    elim (splits (moves_at (site m.fate) run) (did before) ms ns (Acted a) h) [
      | inl r ↦ (let x = in_run (site m.fate) run ms r.0 a r.1 in
          record { first = x.first; m = x.m; last = x.last ++ m ∷ later; is = ap (λ zs. zs ++ m ∷ later) x.is ∙ append_assoc x.first (x.m ∷ x.last) (m ∷ later); at = x.at; before = x.before; after = x.after; acts = x.acts })
      | inr r ↦ (let x = did_acts before r.0 ns a r.2 in
          record { first = run; m = m; last = later; is = refl; at = refl; before = x.0; after = x.1 ++ b ∷ after; acts = acts ∙ ap (λ zs. zs ++ b ∷ after) x.2 ∙ append_assoc x.0 (a ∷ x.1) (b ∷ after) })
    ]

-- ---- the call among the acts of the run
pub record OpenedAt (run later : List Played) (m : Played) (client : List ℕ) (s : Step) : Type 0 where
  pub step : SessionStep
  pub same : step.client ≡ client
  pub step_is : step_in step ≡ s
  pub there : IsAct (site m.fate) (run ++ m ∷ later) (Session (Called step))

pub opened_at : (run later : List Played) (m : Played) (before after : List Act) (b : Act) (client : List ℕ) (past since : List Step) (s : Step) → acts_of m.fate ≡ before ++ b ∷ after → (lost_step ≡ s → ⊥) → life client (moves_amid (site m.fate) run before) [] ≡ past ++ s ∷ since
    → OpenedAt run later m client s
opened_at run later m before after b client past since s acts kept h =
    elim (moved client past s kept (moves_amid (site m.fate) run before) [] since h) [
      | inl g ↦ none_there past g.0 s g.1
      | inr x ↦ record { step = x.step; same = x.same; step_is = x.step_is; there = in_amid run later m before after (Session (Called x.step)) b acts x.before x.after x.is }
    ]
