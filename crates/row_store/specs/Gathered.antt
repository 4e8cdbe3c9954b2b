-- Changes that name each key once.
use Rattle.std.specs.Prelude.{◌≡◌, ◌≢◌, ◌==◌, ◌⊎◌, ℕ, cond, List, Option, None, T, map}
use Rattle.std.specs.FinMap.{is_sorted}
use Rattle.row_store.specs.declared.row.Change.{Change}
use Rattle.row_store.specs.Rows.{Key, key_cmp}
use Rattle.row_store.specs.Leading.{key_in, value_in, first_by, left_by}

-- changes in the order of their keys, each of which is named once
abbrev pub AreOnce : List Change → Type 0
AreOnce changes = T (is_sorted key_cmp (map (λ c. (key_in c, value_in c)) changes))

-- of a key of the kind, what the first change leaves there
abbrev pub first_in : ℕ → List Change → Key → Option (Option (List ℕ))
first_in kind changes key = cond (key.0 == kind) (first_by changes key) None

-- what is left of changes, by the first and the last of them: nothing where the last leaves what the first does
abbrev pub IsSettled : (first last left : Option (Option (List ℕ))) → Type 0
IsSettled first last left = ((first ≡ last) × (left ≡ None)) ⊎ ((first ≢ last) × (left ≡ last))

-- they leave what the others do, but nothing at a key of the kind where the last of the others leaves what the first does
abbrev pub Settle : ℕ → List Change → List Change → Type 0
Settle kind these those = (key : Key) → IsSettled (first_in kind those key) (left_by those key) (left_by these key)
