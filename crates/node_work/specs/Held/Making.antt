-- The operations that a node makes of its own, and when it can't number them.
use Rattle.std.specs.Prelude.{◌≡◌, ℕ, ◌^◌, ◌||◌, Bool, true, false, not, nat_lt, List, Option, Result, Ok, Err}
use Rattle.node_bridge.specs.View.{keeps}
use Rattle.subscription_set.specs.Standing.{dots_of, dots_below}
use Rattle.replica_store.specs.declared.operation.Operation.{Operation}
use Rattle.replica_store.specs.declared.operation.Operation.TheVariants.{Remove}
use Rattle.replica_store.specs.Making.{next_dot, next_count}
use Rattle.replica_store.specs.States.{State, state_join}
use Rattle.replica_store.specs.StateOf.{delta_of}
use Rattle.node_work.specs.declared.fault.NodeFault.{NodeFault}
use Rattle.node_work.specs.declared.fault.NodeFault.TheVariants.{NoMemory, NumbersAtEnd, Stopped}
use Rattle.node_work.specs.View.{HeldView}

-- its next operation would be numbered 2^62
abbrev pub number_at_end : ℕ → HeldView → Bool
number_at_end id h = not (nat_lt (next_dot id h.store).number (2 ^ 62))

-- or, of a Put, so would be the next count of a stamp
abbrev pub put_at_end : ℕ → HeldView → Bool
put_at_end id h = number_at_end id h || not (nat_lt (next_count h.store) (2 ^ 62))

-- the Remove that covers what stands of the client and, where one is given, to the filter
abbrev pub removal : ℕ → List ℕ → Option (List ℕ) → State → Operation
removal id client to s = Remove (next_dot id s) (dots_of client to s.subscriptions)

-- the Remove that covers what stands of the client and was made under a version of the table of homes below one
abbrev pub removal_below : ℕ → List ℕ → ℕ → State → Operation
removal_below id client version s = Remove (next_dot id s) (dots_below client version s.subscriptions)

-- the state after an operation, whose delta is kept for the other nodes
abbrev pub with_operation : HeldView → Operation → HeldView
with_operation h o = record h { store = state_join h.store (delta_of o); bridge = keeps (delta_of o) h.bridge }

-- an operation is made and taken at once, unless it can't be numbered; want of memory says nothing of what is left
abbrev pub Makes : {T : Type 0} → Bool → Operation → HeldView → HeldView → Result T NodeFault → Type 0
Makes at_end o h h' (Ok x) = (at_end ≡ false) × (h' ≡ with_operation h o)
Makes at_end o h h' (Err NumbersAtEnd) = (at_end ≡ true) × (h' ≡ h)
Makes at_end o h h' (Err NoMemory) = Unit {0}
Makes at_end o h h' (Err Stopped) = ⊥
