-- How many of the oldest deltas each peer is known to have taken.
use Rattle.std.specs.Prelude.{◌≡◌, ℕ, ◌≤◌, List, length, get_or, take}
use Rattle.std.specs.List.{AllByRecursion}
use Rattle.std.specs.FinSet as set
use Rattle.causal_context.specs.Dots.{Dots}
use Rattle.causal_context.specs.SetLattice.{IsSubset}
use Rattle.replica_store.specs.States.{State}

-- the peer is known to have taken each dot of the first so many
pub record IsConfirmed (belief : Dots) (count : ℕ) (deltas : List State) : Type 0 where
  pub some : count ≤ length deltas
  pub taken : AllByRecursion (λ d. IsSubset d.taken belief) (take count deltas)

-- by the numbers of the peers, what is known of each and how many of the deltas are counted
pub record AreConfirmed (beliefs : List Dots) (counts : List ℕ) (deltas : List State) : Type 0 where
  pub count : length counts ≡ length beliefs
  pub each : (peer : ℕ) → IsConfirmed (get_or beliefs peer set.empty) (get_or counts peer 0) deltas
