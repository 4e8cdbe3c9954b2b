-- Clients go one after the other, and no session is left of a client whose home is elsewhere.
use Rattle.std.proofs.Common.{◌≡◌, ◌≢◌, inl, inr, ℕ, List, [], ◌∷◌, Option, Some, None, map as map_list, refl, sym, ap, ◌∙◌, subst}
use Rattle.std.specs.FinMap as map
use Rattle.std.specs.List.{AllByRecursion}
use Rattle.std.specs.Option.{option_map}
use Rattle.home_table.specs.Table.{Table}
use Rattle.session_table.specs.Seats.{Seat, IsElsewhere}
use Rattle.node_work.specs.Acts.{Act, Runs}
use Rattle.node_work.specs.Held.Sessions.{seat_at}
use Rattle.node_work.specs.View.{Place, HeldView}
use Rattle.node_work.specs.Working.{Each}
use Rattle.node_clients.specs.Moving as moving
use Rattle.broker_node.specs.Moving as tables
use Rattle.law_runs.specs.StepSending.{IsIn}
use Rattle.law_runs.proofs.Keeping.{none_some}
use Rattle.law_steps.specs.Going.{Goes, seat_seen, seen_in}
use Rattle.law_steps.specs.Tables.{GoInTurn, ClientsGo}
use Rattle.law_steps.proofs.Calm.{Has}
use Rattle.law_steps.proofs.MoveEnding.{second_runs}
use Rattle.law_steps.proofs.Going.{goes}
use Rattle.law_steps.proofs.Keys.{Apart, key_in, keys_apart, keys_seated, selected_all, selected_apart, selected_in}

-- ---- a session that is seen is there

still_has : (q : List ℕ) (h h' : HeldView) → seat_seen q h' ≡ seat_seen q h → Has q h → Has q h'
still_has q h h' is has = by (seat_at q h') refl (is ∙ ap (option_map seen_in) has.1)
  where
    by : (o : Option Seat) → seat_at q h' ≡ o → option_map seen_in o ≡ Some (seen_in has.0) → Has q h'
    by None at e = absurd (let z : None ≡ Some (seen_in has.0) = e in cc)
    by (Some seat) at e = (seat, at)

-- the same the other way round
was_there : (q : List ℕ) (h h' : HeldView) → seat_seen q h' ≡ seat_seen q h → Has q h' → Has q h
was_there q h h' is has = still_has q h' h (sym is) has

-- ---- those that wait for their turn
abbrev pub AreAway : Place → HeldView → List (List ℕ) → Type 0
AreAway p h clients = AllByRecursion (λ (q : List ℕ). IsElsewhere h.homes p.id q × Has q h) clients

pub still_away : (p : Place) (client : List ℕ) (h h' : HeldView) (clients : List (List ℕ)) → h'.homes ≡ h.homes → ((q : List ℕ) → q ≢ client → seat_seen q h' ≡ seat_seen q h) → AllByRecursion (λ (q : List ℕ). q ≢ client) clients → AreAway p h clients → AreAway p h' clients
still_away p client h h' [] homes same apart away = tt
still_away p client h h' (q ∷ clients) homes same apart away =
    ((subst (λ (t : Table). IsElsewhere t p.id q) (sym homes) away.0.0, still_has q h h' (same q apart.0) away.0.1), still_away p client h h' clients homes same apart.1 away.1)

each_goes : (p : Place) (clients : List (List ℕ)) (x : Unit {0}) (h h' : HeldView) (acts : List Act) → Apart clients → AreAway p h clients → Each moving.MovesAway clients (Some x) p h acts → Runs p h acts h' → GoInTurn p clients h acts h'
each_goes p [] x h h' acts apart away d runs = (d.1, subst (λ xs. Runs p h xs h') d.1 runs)
each_goes p (client ∷ clients) x h h' acts apart away (inl d) runs = none_some (sym d.0)
each_goes p (client ∷ clients) x h h' acts apart away (inr (y, own, mid, rest, one, ran, more, is)) runs =
    let g : Goes p client h own mid = goes p client y h mid own away.0.1 away.0.0 one ran in
    (own, mid, rest, is, ran, g, each_goes p clients x mid h' rest apart.1 (still_away p client h mid clients g.leaves.homes g.leaves.sessions apart.0 away.1) more (second_runs p h mid h' own rest acts is ran runs))

pub sends_away : (x : Unit {0}) (p : Place) (h h' : HeldView) (acts : List Act) → tables.SendsAway (Some x) p h acts → Runs p h acts h' → ClientsGo p h acts h'
sends_away x p h h' acts (away, are, d) runs =
    let keys = map_list (λ e. e.0) (map.entries h.sessions) in
    record {
      away = away;
      are = are;
      go = each_goes p away x h h' acts (selected_apart (IsElsewhere h.homes p.id) keys away are (keys_apart h.sessions))
          (selected_all (IsElsewhere h.homes p.id) (λ q. Has q h) keys away are (keys_seated h.sessions)) d runs;
    }

-- ---- what is left of it: the table, and only sessions that were there, but for those of the clients that went
pub record Left (clients : List (List ℕ)) (h h' : HeldView) : Type 0 where
  pub homes : h'.homes ≡ h.homes
  pub was : (q : List ℕ) → Has q h' → Has q h
  pub gone : (q : List ℕ) → IsIn q clients → Has q h' → ⊥

one_left : (p : Place) (client : List ℕ) (h h' : HeldView) (acts : List Act) → Goes p client h acts h' → (q : List ℕ) → Has q h' → (q ≢ client) × Has q h
one_left p client h h' acts g q has = (other, was_there q h h' (g.leaves.sessions q other) has)
  where
    other : q ≢ client
    other e = let z : None ≡ Some has.0 = sym g.leaves.gone ∙ ap (λ k. seat_at k h') (sym e) ∙ has.1 in cc

pub turn_left : (p : Place) (clients : List (List ℕ)) (h h' : HeldView) (acts : List Act) → GoInTurn p clients h acts h' → Left clients h h'
turn_left p [] h h' acts d = record { homes = ap (λ (v : HeldView). v.homes) d.1; was = λ q has. subst (Has q) d.1 has; gone = λ q there has. there }
turn_left p (client ∷ clients) h h' acts (own, mid, rest, is, ran, g, more) =
    let later = turn_left p clients mid h' rest more in
    record {
      homes = later.homes ∙ g.leaves.homes;
      was = λ q has. (one_left p client h mid own g q (later.was q has)).1;
      gone = λ q there has. elim there [
        | inl e ↦ (one_left p client h mid own g q (later.was q has)).0 (sym e)
        | inr i ↦ later.gone q i has
      ];
    }

-- no session is left of a client whose home is elsewhere
pub none_away : (p : Place) (h h' : HeldView) (acts : List Act) → ClientsGo p h acts h' → (q : List ℕ) → Has q h' → IsElsewhere h'.homes p.id q → ⊥
none_away p h h' acts s q has elsewhere =
    let left = turn_left p s.away h h' acts s.go in
    let was = left.was q has in
    let here : IsElsewhere h.homes p.id q = subst (λ (t : Table). IsElsewhere t p.id q) left.homes elsewhere in
    left.gone q (selected_in (IsElsewhere h.homes p.id) (map_list (λ e. e.0) (map.entries h.sessions)) s.away q s.are (key_in h.sessions q was.0 was.1) here) has
