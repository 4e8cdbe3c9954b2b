-- What merging comes to.
use Rattle.std.specs.Prelude.{◌≡◌, ◌↔◌, ℕ, Bool, true, List, ◌++◌, filter, Option, Some}
use Rattle.std.specs.FinSet as set
use Rattle.std.specs.FinMap as map
use Rattle.causal_context.specs.Dots.{Dot}
use Rattle.subscription_set.specs.declared.entry.Entry.{Entry}
use Rattle.subscription_set.specs.Entries.{is_of, is_of_below}
use Rattle.subscription_set.specs.Standing.{find_entry, live, dots_of, dots_below, seen_of}
use Rattle.replica_store.specs.declared.operation.Operation.{Operation}
use Rattle.replica_store.specs.Operations.{HaveOwnDots, Sees, Stands, IsLive, IsGreatestCount}
use Rattle.replica_store.specs.Retained.{HaveOwnTopics, greatest_count}
use Rattle.mqtt_message.specs.declared.message.Message.{Message}
use Rattle.replica_store.specs.Answers.{IsAnswer, IsAnswerOf}
use Rattle.replica_store.specs.States.{State, state_join}
use Rattle.replica_store.specs.StateOf.{IsStateOf, SameOperations, joined_deltas}

-- joining the deltas of operations makes their state
abbrev pub DeltasMakeTheState : Type 0
DeltasMakeTheState = (O : List Operation) → HaveOwnDots O → IsStateOf O (joined_deltas O)

-- in whatever order, and however often each comes
abbrev pub OrderIsFree : Type 0
OrderIsFree = (O P : List Operation) → HaveOwnDots O → SameOperations O P → joined_deltas O ≡ joined_deltas P

-- the same operations have one state
abbrev pub OneState : Type 0
OneState = (O P : List Operation) (s t : State) → HaveOwnDots O → SameOperations O P → IsStateOf O s → IsStateOf P t → s ≡ t

-- the state of two lists together is the join of their states
abbrev pub StateOfBoth : Type 0
StateOfBoth = (O P : List Operation) (s t : State) → HaveOwnDots (O ++ P) → IsStateOf O s → IsStateOf P t → IsStateOf (O ++ P) (state_join s t)

-- the deltas of some of the operations make the state of these
abbrev pub StateOfSome : Type 0
StateOfSome = (O : List Operation) (some : Operation → Bool) → HaveOwnDots O → IsStateOf (filter some O) (joined_deltas (filter some O))

-- a state has seen what the operations see: their dots, and the dots of their covers
abbrev pub SeenIsOfTheOperations : Type 0
SeenIsOfTheOperations = (O : List Operation) (s : State) → IsStateOf O s
    → (dot : Dot) → (set.contains (seen_of s.subscriptions) dot ≡ true) ↔ Sees O dot

-- what is live in the state is what is live among the operations
abbrev pub LiveIsOfTheOperations : Type 0
LiveIsOfTheOperations = (O : List Operation) (s : State) → HaveOwnDots O → IsStateOf O s
    → (dot : Dot) (entry : Entry) → (find_entry dot (live s.subscriptions) ≡ Some entry) ↔ IsLive O dot entry

-- a cover takes the dots of what stands among the operations
abbrev pub CoverIsOfTheOperations : Type 0
CoverIsOfTheOperations = (O : List Operation) (s : State) → HaveOwnDots O → IsStateOf O s
    → (client : List ℕ) (to : Option (List ℕ)) (dot : Dot)
    → (set.contains (dots_of client to s.subscriptions) dot ≡ true) ↔ ((entry : Entry) × Stands O dot entry × (is_of client to entry ≡ true))

-- and one of what was made under a version below this one those that were made so
abbrev pub CoverBelowIsOfTheOperations : Type 0
CoverBelowIsOfTheOperations = (O : List Operation) (s : State) → HaveOwnDots O → IsStateOf O s
    → (client : List ℕ) (version : ℕ) (dot : Dot)
    → (set.contains (dots_below client version s.subscriptions) dot ≡ true) ↔ ((entry : Entry) × Stands O dot entry × (is_of_below client version entry ≡ true))

-- the greatest count in the state is that of the Puts
abbrev pub CountIsOfTheOperations : Type 0
CountIsOfTheOperations = (O : List Operation) (s : State) → IsStateOf O s → IsGreatestCount O (greatest_count (map.entries s.retained))

-- what is kept of a topic is a message of that topic
abbrev pub TopicsAreTheMessages : Type 0
TopicsAreTheMessages = (O : List Operation) (s : State) → IsStateOf O s → HaveOwnTopics s.retained

-- the answer of the state is the answer of the operations
abbrev pub AnswerIsOfTheOperations : Type 0
AnswerIsOfTheOperations = (O : List Operation) (s : State) → HaveOwnDots O → IsStateOf O s
    → (to : List ℕ) (now : ℕ) (out : List Message) → IsAnswer to now (map.entries s.retained) out → IsAnswerOf O to now out

-- and there is only one
abbrev pub OneAnswer : Type 0
OneAnswer = (to : List ℕ) (now : ℕ) (s : State) (out other : List Message)
    → IsAnswer to now (map.entries s.retained) out → IsAnswer to now (map.entries s.retained) other → out ≡ other
