-- The state of a replica, its order and its join.
use Rattle.std.specs.Prelude.{refl}
use Rattle.std.specs.Coded.{Coded, code_by, coded×}
use Rattle.std.specs.FinMap as map
use Rattle.std.specs.FinSet as set
use Rattle.causal_context.specs.Dots.{Dots, coded_dot}
use Rattle.causal_context.specs.SetLattice.{IsSubset}
use Rattle.subscription_set.specs.Standing.{seen_of}
use Rattle.subscription_set.specs.Statuses.{Statuses, statuses_join, StatusesBelow, coded_statuses}
use Rattle.replica_store.specs.Retained.{Retained, retained_join, RetainedBelow, coded_retained}

-- the dots of the operations that were taken, the subscriptions, and the retained messages
pub record State : Type 0 where
  pub taken : Dots
  pub subscriptions : Statuses
  pub retained : Retained

-- the state of no operation
abbrev pub nothing : State
nothing = record { taken = set.empty; subscriptions = map.empty; retained = map.empty }

-- part by part
abbrev pub state_join : State → State → State
state_join s t = record { taken = set.union s.taken t.taken; subscriptions = statuses_join s.subscriptions t.subscriptions; retained = retained_join s.retained t.retained }

-- each dot that was taken was seen
abbrev pub TakenIsSeen : State → Type 0
TakenIsSeen s = IsSubset s.taken (seen_of s.subscriptions)

pub record StateBelow (s t : State) : Type 0 where
  pub taken : IsSubset s.taken t.taken
  pub subscriptions : StatusesBelow s.subscriptions t.subscriptions
  pub retained : RetainedBelow s.retained t.retained

-- a state is stored as its parts
abbrev pub coded_state : Coded State
coded_state =
    code_by (Dots × (Statuses × Retained)) (coded× (set.code coded_dot) (coded× coded_statuses coded_retained))
    (λ s. (s.taken, (s.subscriptions, s.retained))) (λ p. record { taken = p.0; subscriptions = p.1.0; retained = p.1.1 }) (λ _. refl)
