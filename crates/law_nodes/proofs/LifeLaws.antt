-- Each session is what its calls make of a new one.
use Rattle.std.proofs.Common.{◌≡◌, ℕ, Bool, true, false, cond, List, [], ◌∷◌, ◌++◌, Option, Some, None, option_map, refl, sym, ap, subst, ◌∙◌}
use Rattle.std.specs.FinMap as map
use Rattle.std.specs.Cmp.Lexicographic.{slice_cmp}
use Rattle.std.specs.Ordering.{nat_cmp}
use Rattle.mqtt_sessions.specs.State.{State, new_session}
use Rattle.mqtt_sessions.specs.Saved.{durable_of, state_in}
use Rattle.law_sessions.specs.Runs.{Step, Reacts, Run}
use Rattle.law_sessions.proofs.ReopenedLaws.{reopens}
use Rattle.session_table.specs.Seats.{Seat, Seats, begun}
use Rattle.law_maps.proofs.Texts.{same_text, get_inserted, get_apart, get_removed, get_left}
use Rattle.node_work.specs.Acts.{Act, MomentTaken, Began, Moved, Store, Connection, Session, Bridge, Out, Named, Acknowledged, Passed, Dropped, Allowed, next}
use Rattle.node_work.specs.Held.Connections.{ConnectionAct, Opened, Fed, Roomed, Accepted, Closed}
use Rattle.node_work.specs.Held.Bridge.{BridgeAct, Put, Took, Got, Believed, Greeted, Gave, Left_out, bridged}
use Rattle.node_work.specs.Held.Sessions.{SessionAct, SessionStep, Begun, Called, Over, MayCall, called}
use Rattle.home_table.specs.Table.{Table}
use Rattle.node_work.specs.Lasting.{lasting, IsWoken}
use Rattle.node_rows.specs.Sessions.{opened_seat}
use Rattle.node_work.specs.View.{Place, HeldView, fresh}
use Rattle.law_nodes.specs.Moves.{Move, Acted, Reopened, MovesTo, Moves}
use Rattle.law_nodes.specs.Lives.{is_client, step_in, after_call, after_act, lost_step, after_move, life, IsLived, MovesAreLives, FreshIsLived, SessionsOfMovesAreRuns}

-- one more step of a run
pub run_more : (a m b : State) (xs : List Step) (s : Step) → Run a xs m → Reacts m s.event s.reaction b → Run a (xs ++ s ∷ []) b
run_more a m b [] s r q = (b, subst (λ v. Reacts v s.event s.reaction b) r q, refl)
run_more a m b (x ∷ xs) s r q = (r.0, r.1, run_more r.0 m b xs s r.2 q)

some_same : (a b : Seat) → Some a ≡ Some b → a ≡ b
some_same a b e = cc

no_seat : (a : Seat) → None ≡ Some a → ⊥
no_seat a e = cc

-- the client's own seat, or one that an act leaves
module _ (lives : List ℕ → List Step) (seats : Seats) (lived : (client : List ℕ) (seat : Seat) → map.get seats client ≡ Some seat → Run (new_session client) (lives client) seat.session) where
  begins : (other client : List ℕ) (seat : Seat) (b : Bool) → is_client client other ≡ b → map.get (map.insert seats other (begun other)) client ≡ Some seat → Run (new_session client) (cond b [] (lives client)) seat.session
  begins other client seat true t is =
      let same = same_text client other t in
      let there : begun other ≡ seat = some_same (begun other) seat (sym (get_inserted seats other (begun other)) ∙ ap (map.get (map.insert seats other (begun other))) (sym same) ∙ is) in
      ap (λ (s : Seat). s.session) (sym there) ∙ ap new_session (sym same)
  begins other client seat false t is = lived client seat (sym (get_apart seats other (begun other) client t) ∙ is)

  calls : (s : SessionStep) (old : Seat) → map.get seats s.client ≡ Some old → Reacts old.session s.event s.reaction s.after
      → (client : List ℕ) (seat : Seat) (b : Bool) → is_client client s.client ≡ b → map.get (map.insert seats s.client (record { session = s.after; connection = s.on })) client ≡ Some seat
      → Run (new_session client) (cond b (lives client ++ step_in s ∷ []) (lives client)) seat.session
  calls s old found reacts client seat true t is =
      let same = same_text client s.client t in
      let after : Seat = record { session = s.after; connection = s.on } in
      let there : after ≡ seat = some_same after seat (sym (get_inserted seats s.client after) ∙ ap (map.get (map.insert seats s.client after)) (sym same) ∙ is) in
      let before : Run (new_session client) (lives client) old.session = lived client old (ap (map.get seats) same ∙ found) in
      subst (λ (v : Seat). Run (new_session client) (lives client ++ step_in s ∷ []) v.session) there (run_more (new_session client) old.session s.after (lives client) (step_in s) before reacts)
  calls s old found reacts client seat false t is = lived client seat (sym (get_apart seats s.client (record { session = s.after; connection = s.on }) client t) ∙ is)

  ends : (other client : List ℕ) (seat : Seat) (b : Bool) → is_client client other ≡ b → map.get (map.remove seats other) client ≡ Some seat → Run (new_session client) (cond b [] (lives client)) seat.session
  ends other client seat true t is = absurd (no_seat seat (sym (get_removed seats other) ∙ ap (map.get (map.remove seats other)) (sym (same_text client other t)) ∙ is))
  ends other client seat false t is = lived client seat (sym (get_left seats other client t) ∙ is)

lived_call : (h : HeldView) (a : SessionAct) (lives : List ℕ → List Step) → MayCall h a → IsLived lives h → IsLived (λ client. after_call client a (lives client)) (called h a)
lived_call h (Begun other) lives may lived client seat is = begins lives h.sessions lived other client seat (is_client client other) refl is
lived_call h (Called s) lives may lived client seat is = calls lives h.sessions lived s may.seat may.found may.reacts client seat (is_client client s.client) refl is
lived_call h (Over other) lives may lived client seat is = ends lives h.sessions lived other client seat (is_client client other) refl is

lived_connection : (h : HeldView) (a : ConnectionAct) (lives : List ℕ → List Step) → IsLived lives h → IsLived lives (next h (Connection a))
lived_connection h (Opened c) lives lived = lived
lived_connection h (Fed c piece) lives lived = lived
lived_connection h (Roomed c bytes) lives lived = lived
lived_connection h (Accepted c client) lives lived = lived
lived_connection h (Closed c) lives lived = lived

lived_bridge : (h : HeldView) (a : BridgeAct) (lives : List ℕ → List Step) → IsLived lives h → IsLived lives (bridged h a)
lived_bridge h (Put peer m) lives lived = lived
lived_bridge h (Took peer number m copies lost) lives lived = lived
lived_bridge h (Got peer number) lives lived = lived
lived_bridge h (Believed peer dots) lives lived = lived
lived_bridge h (Greeted peer g) lives lived = lived
lived_bridge h (Gave f) lives lived = lived
lived_bridge h (Left_out what) lives lived = lived

pub lived_act : (p : Place) (h : HeldView) (a : Act) (lives : List ℕ → List Step) → Allowed p h a → IsLived lives h → IsLived (λ client. after_act client a (lives client)) (next h a)
lived_act p h (MomentTaken at) lives may lived = lived
lived_act p h Began lives may lived = lived
lived_act p h (Moved homes) lives may lived = lived
lived_act p h (Store a) lives may lived = lived
lived_act p h (Connection a) lives may lived = lived_connection h a lives lived
lived_act p h (Session a) lives may lived = lived_call h a lives may lived
lived_act p h (Bridge a) lives may lived = lived_bridge h a lives lived
lived_act p h (Out o) lives may lived = lived
lived_act p h (Named number) lives may lived = lived
lived_act p h (Acknowledged client packet at grants offers) lives may lived = lived
lived_act p h (Passed m copies lost routes) lives may lived = lived
lived_act p h Dropped lives may lived = lived

-- each session that is there after a loss was there before
lived_lost : (homes : Table) (h h' : HeldView) (lives : List ℕ → List Step) → IsWoken homes (lasting h) h' → IsLived lives h → IsLived (λ client. lives client ++ lost_step ∷ []) h'
lived_lost homes h h' lives woken lived client seat is =
    again (map.get h.sessions client) refl (sym (woken.1 client) ∙ subst (λ (v : HeldView). map.get v.sessions client ≡ Some seat) woken.2 is)
  where
    again : (o : Option Seat) → map.get h.sessions client ≡ o → option_map opened_seat (option_map (λ (s : Seat). durable_of s.session) o) ≡ Some seat → Run (new_session client) (lives client ++ lost_step ∷ []) seat.session
    again None none e = absurd (no_seat seat e)
    again (Some old) found e =
        let there : opened_seat (durable_of old.session) ≡ seat = some_same (opened_seat (durable_of old.session)) seat e in
        subst (λ (v : Seat). Run (new_session client) (lives client ++ lost_step ∷ []) v.session) there
        (run_more (new_session client) old.session (state_in (durable_of old.session)) (lives client) lost_step (lived client old found) (reopens old.session))

lived_move : (p : Place) (h : HeldView) (m : Move) (h' : HeldView) (lives : List ℕ → List Step) → MovesTo p h m h' → IsLived lives h → IsLived (λ client. after_move client m (lives client)) h'
lived_move p h (Acted a) h' lives does lived = subst (IsLived (λ client. after_act client a (lives client))) (sym does.1) (lived_act p h a lives does.0 lived)
lived_move p h (Reopened homes) h' lives woken lived = lived_lost homes h h' lives woken lived

pub moves_are_lives : MovesAreLives
moves_are_lives = λ p h h' moves lives all lived. go p moves h h' lives all lived
  where
    go : (p : Place) (moves : List Move) (h h' : HeldView) (lives : List ℕ → List Step) → Moves p h moves h' → IsLived lives h → IsLived (λ client. life client moves (lives client)) h'
    go p [] h h' lives all lived = subst (IsLived lives) (sym all) lived
    go p (m ∷ moves) h h' lives all lived =
        go p moves all.0 h' (λ client. after_move client m (lives client)) all.2 (lived_move p h m all.0 lives all.1 lived)

pub fresh_is_lived : FreshIsLived
fresh_is_lived = λ homes client seat is. absurd (no_seat seat (sym (map.get-empty {X = Seat} (slice_cmp nat_cmp) client) ∙ is))

pub sessions_are_runs : SessionsOfMovesAreRuns
sessions_are_runs = λ p homes h moves all. moves_are_lives p (fresh homes) h moves (λ client. []) all (fresh_is_lived homes)
