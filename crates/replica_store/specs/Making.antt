-- The operations that a node makes, looking at its state.
use Rattle.std.specs.Prelude.{ℕ, ◌+◌, ◌≤◌, ◌^◌, if◌then◌else◌, List, Option, Some, None}
use Rattle.std.specs.FinMap as map
use Rattle.causal_context.specs.Dots.{Dot, greatest_of}
use Rattle.subscription_set.specs.declared.entry.Entry.{Entry}
use Rattle.subscription_set.specs.Standing.{dots_of, dots_below, any_of, any_below}
use Rattle.replica_store.specs.declared.content.Content.{Content}
use Rattle.replica_store.specs.declared.operation.Operation.{Operation}
use Rattle.replica_store.specs.declared.operation.Operation.TheVariants.{Subscribe, Remove, Put}
use Rattle.replica_store.specs.Retained.{greatest_count}
use Rattle.replica_store.specs.States.{State}

-- the node's next dot: the number after its greatest
abbrev pub next_dot : ℕ → State → Dot
next_dot node s = record { node = node; number = greatest_of s.taken node + 1 }

-- the next count of a stamp: the one after the greatest
abbrev pub next_count : State → ℕ
next_count s = greatest_count (map.entries s.retained) + 1

-- the next number would be 2^62
abbrev pub NumberAtEnd : ℕ → State → Type 0
NumberAtEnd node s = 2 ^ 62 ≤ greatest_of s.taken node + 1

-- the next count would be 2^62
abbrev pub CountAtEnd : State → Type 0
CountAtEnd s = 2 ^ 62 ≤ next_count s

-- a Subscribe that covers what stands of the client to the filter
abbrev pub subscribe_of : ℕ → Entry → State → Operation
subscribe_of node entry s = Subscribe (next_dot node s) entry (dots_of entry.client (Some entry.filter) s.subscriptions)

-- a Remove that covers what stands of the client and, where one is given, to the filter; none where nothing does
abbrev pub remove_of : ℕ → List ℕ → Option (List ℕ) → State → Option Operation
remove_of node client filter s = if any_of client filter s.subscriptions then Some (Remove (next_dot node s) (dots_of client filter s.subscriptions)) else None

-- the same of what stands that was made under a version below this one
abbrev pub remove_below_of : ℕ → List ℕ → ℕ → State → Option Operation
remove_below_of node client version s = if any_below client version s.subscriptions then Some (Remove (next_dot node s) (dots_below client version s.subscriptions)) else None

-- a Put with the next count
abbrev pub put_of : ℕ → Content → State → Operation
put_of node content s = Put (next_dot node s) (record { count = next_count s; node = node }) content
