-- A node's table of homes stays while it begins its work, and does what is due.
use Rattle.std.proofs.Common.{◌≡◌, inl, inr, ℕ, List, [], ◌∷◌, Option, Some, refl, ◌∙◌}
use Rattle.node_work.specs.Acts.{Act, MomentTaken, Began, Store, Connection, Session, Bridge, Out, Named, Acknowledged, Passed, Dropped, Moved, Made, Runs, next}
use Rattle.node_work.specs.Held.Bridge.{Put, Left_out}
use Rattle.node_work.specs.Held.Connections.{ConnectionAct, Opened, Fed, Roomed, Accepted, Closed as Closed_at}
use Rattle.node_work.specs.Held.Sessions.{SessionAct, SessionStep, Begun, Called, Over}
use Rattle.node_work.specs.View.{Place, HeldView}
use Rattle.node_work.specs.Working.{Then}
use Rattle.broker_node.specs.Due as due
use Rattle.law_runs.proofs.Keeping.{Property}
use Rattle.law_steps.proofs.Joining.{Closed, j_then}
use Rattle.law_steps.proofs.Leaving.{Leaves, Order, leaves_closed, leaves_one}
use Rattle.law_steps.proofs.Untaken.{Ones, ticks_of}
use Rattle.law_steps.proofs.Walking.{IsBareCall, IsBareDue, closes_stored, does_due}

abbrev SameHomes : HeldView → HeldView → Type 0
SameHomes h h' = h'.homes ≡ h.homes

order : Order SameHomes
order = record { same = λ h. refl; after = λ h mid h' a b. b ∙ a }

abbrev T : Property
T = Leaves SameHomes order

abbrev c : Closed T
c = leaves_closed SameHomes order

ones : Ones T
ones = record {
  made = λ p h o. leaves_one SameHomes order p h (Store (Made o)) (λ _. refl);
  called = λ p h s un. leaves_one SameHomes order p h (Session (Called s)) (λ _. refl);
  over = λ p h client. leaves_one SameHomes order p h (Session (Over client)) (λ _. refl);
  put = λ p h peer m. leaves_one SameHomes order p h (Bridge (Put peer m)) (λ _. refl);
  missed = λ p h what. leaves_one SameHomes order p h (Bridge (Left_out what)) (λ _. refl);
  passed = λ p h m copies lost routes. leaves_one SameHomes order p h (Passed m copies lost routes) (λ _. refl);
  dropped = λ p h. leaves_one SameHomes order p h Dropped (λ _. refl);
  acknowledged = λ p h client packet at given os. leaves_one SameHomes order p h (Acknowledged client packet at given os) (λ _. refl);
}

after_connection : (h : HeldView) (a : ConnectionAct) → (next h (Connection a)).homes ≡ h.homes
after_connection h (Opened n) = refl
after_connection h (Fed n piece) = refl
after_connection h (Roomed n bytes) = refl
after_connection h (Accepted n client) = refl
after_connection h (Closed_at n) = refl

due_one : (p : Place) (h : HeldView) (a : Act) → IsBareDue a → T p h (a ∷ [])
due_one p h (Connection a) bare = leaves_one SameHomes order p h (Connection a) (λ _. after_connection h a)
due_one p h (Out o) bare = leaves_one SameHomes order p h (Out o) (λ _. refl)
due_one p h a bare = absurd bare

call_one : (p : Place) (h : HeldView) (s : SessionStep) → IsBareCall s.event → T p h (Session (Called s) ∷ [])
call_one p h s bare = leaves_one SameHomes order p h (Session (Called s)) (λ _. refl)

pub same_homes : (x : Unit {0}) (p : Place) (h mid : HeldView) (acts : List Act) → Then due.ClosesStored (λ _. due.DoesDue) (Some x) p h acts → Runs p h acts mid → mid.homes ≡ h.homes
same_homes x p h mid acts d runs =
    (j_then T c due.ClosesStored (λ _. due.DoesDue) (closes_stored T c due_one call_one (ticks_of T c ones)) (λ _. does_due T c due_one call_one (ticks_of T c ones))).of x p h acts d mid runs
