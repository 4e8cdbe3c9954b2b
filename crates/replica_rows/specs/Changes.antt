-- What leads from the rows of a state to those of another.
use Rattle.std.specs.Prelude.{◌≡◌, ◌≢◌, ◌⊎◌, Bool, true, List, Some, None}
use Rattle.std.specs.List.{AllByRecursion, list_any}
use Rattle.std.specs.Ordering.{eq_by_cmp}
use Rattle.row_store.specs.Leading.{key_in}
use Rattle.row_store.specs.declared.row.Change.{Change}
use Rattle.row_store.specs.declared.row.Change.TheVariants.{Put, Remove}
use Rattle.row_store.specs.Rows.{Content, Key, key_cmp, key_of, after_all}
use Rattle.replica_store.specs.States.{State}
use Rattle.replica_rows.specs.Rows.{row_at, AreRowsOf}

-- whether one of the changes names the key
abbrev pub names : Key → List Change → Bool
names key changes = list_any (λ c. eq_by_cmp key_cmp key (key_in c)) changes

-- a change puts what t has at its key, or removes what it hasn't
abbrev pub IsRight : State → Change → Type 0
IsRight t (Put row) = row_at t (key_of row) ≡ Some row.value.items
IsRight t (Remove kind owner place) = row_at t (kind, (owner.items, place.items)) ≡ None

-- it is right, and s has another row there
pub record IsNeeded (s t : State) (change : Change) : Type 0 where
  pub right : IsRight t change
  pub differs : row_at s (key_in change) ≢ row_at t (key_in change)

-- each change is needed, and each key at which s and t differ is named
pub record AreChanges (s t : State) (changes : List Change) : Type 0 where
  pub needed : AllByRecursion (IsNeeded s t) changes
  pub complete : (key : Key) → (row_at s key ≡ row_at t key) ⊎ (names key changes ≡ true)

-- they lead from the rows of s to those of t
abbrev pub LeadBetween : State → State → List Change → Type 0
LeadBetween s t changes = (c : Content) → AreRowsOf c s → AreRowsOf (after_all c changes) t
