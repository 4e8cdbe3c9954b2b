-- The last deltas.
use Rattle.std.specs.Prelude.{ℕ, ◌-◌, List, ◌∷◌, [], ◌++◌, length, drop}
use Rattle.replica_store.specs.States.{State}

-- the last so many
abbrev pub last_of : {A : Type 0} → ℕ → List A → List A
last_of n xs = drop (length xs - n) xs

-- with one more delta, of which the last 4,096 stay
abbrev pub with_delta : State → List State → List State
with_delta d deltas = last_of 4096 (deltas ++ d ∷ [])
