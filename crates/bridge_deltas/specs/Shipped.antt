-- What is sent to a peer of a store, by the dots that the peer is known to have taken
-- (Almeida, Shoker, Baquero, "Delta State Replicated Data Types", on delta-groups).
use Rattle.std.specs.Prelude.{◌≡◌, ◌⊎◌, true, false, List, [], ◌∷◌}
use Rattle.std.specs.List.{list_any}
use Rattle.std.specs.FinSet as set
use Rattle.causal_context.specs.Dots.{Dot, Dots}
use Rattle.causal_context.specs.SetLattice.{IsSubset}
use Rattle.filter_trie.specs.Selected.{IsSelected}
use Rattle.replica_store.specs.States.{State, nothing, state_join}

-- a delta of which the peer may lack a dot
abbrev pub IsNew : Dots → State → Type 0
IsNew belief d = IsSubset d.taken belief → ⊥

-- joined to a state, if so
abbrev pub JoinsNew : Dots → State → State → State → Type 0
JoinsNew belief s d joined = (IsNew belief d × (joined ≡ state_join s d)) ⊎ ((IsNew belief d → ⊥) × (joined ≡ s))

-- states joined to one, one after the other
abbrev pub joined_to : State → List State → State
joined_to s [] = s
joined_to s (d ∷ ds) = joined_to (state_join s d) ds

abbrev pub all_joined : List State → State
all_joined ds = joined_to nothing ds

-- dots, and those that are taken by states
abbrev pub dots_with : Dots → List State → Dots
dots_with dots [] = dots
dots_with dots (d ∷ ds) = dots_with (set.union dots d.taken) ds

-- each dot that the peer may lack is in one of the deltas
abbrev pub AreKept : Dots → List State → Dots → Type 0
AreKept belief deltas taken = (q : Dot) → set.contains taken q ≡ true → set.contains belief q ≡ false → list_any (λ d. set.contains d.taken q) deltas ≡ true

-- the join of the deltas of which the peer may lack a dot, or the whole store where another dot is in none
abbrev pub IsShipped : Dots → List State → State → State → Type 0
IsShipped belief deltas store s =
    (AreKept belief deltas store.taken × ((news : List State) × IsSelected (IsNew belief) deltas news × (s ≡ all_joined news)))
    ⊎ ((AreKept belief deltas store.taken → ⊥) × (s ≡ store))
