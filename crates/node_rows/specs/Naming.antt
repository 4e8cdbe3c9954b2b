-- Whether dots, and a state, name none but nodes of the cluster, as tests.
use Rattle.std.specs.Prelude.{◌≡◌, ◌↔◌, ℕ, ◌&&◌, nat_lt, Bool, true}
use Rattle.std.specs.FinMap as map
use Rattle.std.specs.FinSet as set
use Rattle.std.specs.List.{list_all}
use Rattle.causal_context.specs.Dots.{Dots}
use Rattle.replica_store.specs.Retained.{Retained}
use Rattle.replica_store.specs.States.{State}
use Rattle.subscription_set.specs.Standing.{seen_of}
use Rattle.node_rows.specs.Reading.{AreAmong, IsAmong}

abbrev pub dots_among : ℕ → Dots → Bool
dots_among nodes dots = list_all (λ d. nat_lt d.node nodes) (set.items dots)

abbrev pub stamps_among : ℕ → Retained → Bool
stamps_among nodes retained = list_all (λ e. nat_lt e.1.stamp.node nodes) (map.entries retained)

-- the dots that it has taken, those that it has seen, and its stamps
abbrev pub state_among : ℕ → State → Bool
state_among nodes s = dots_among nodes s.taken && dots_among nodes (seen_of s.subscriptions) && stamps_among nodes s.retained

-- ---- laws
abbrev pub DotsAreTested : Type 0
DotsAreTested = (nodes : ℕ) (dots : Dots) → (dots_among nodes dots ≡ true) ↔ AreAmong nodes dots

abbrev pub StatesAreTested : Type 0
StatesAreTested = (nodes : ℕ) (s : State) → (state_among nodes s ≡ true) ↔ IsAmong nodes s
