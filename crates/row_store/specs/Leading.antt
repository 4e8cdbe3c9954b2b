-- What changes leave of rows, told key by key.
use Rattle.std.specs.Prelude.{◌≡◌, ◌≢◌, ℕ, Bool, true, false, cond, List, [], ◌∷◌, Option, Some, None, IfSome}
use Rattle.std.specs.Ordering.{eq_by_cmp}
use Rattle.row_store.specs.declared.row.Change.{Change}
use Rattle.row_store.specs.declared.row.Change.TheVariants.{Put, Remove}
use Rattle.row_store.specs.Rows.{Key, key_cmp, key_of}

-- rows by their keys
abbrev pub Rows : Type 0
Rows = Key → Option (List ℕ)

-- the key that a change names, and what it leaves there
abbrev pub key_in : Change → Key
key_in (Put row) = key_of row
key_in (Remove kind owner place) = (kind, (owner.items, place.items))

abbrev pub value_in : Change → Option (List ℕ)
value_in (Put row) = Some row.value.items
value_in (Remove kind owner place) = None

-- what the last of the changes that name the key leaves there; none where none does
abbrev pub or_else : Option (Option (List ℕ)) → Option (Option (List ℕ)) → Option (Option (List ℕ))
or_else None before = before
or_else (Some left) before = Some left

abbrev pub left_by_one : Change → Key → Option (Option (List ℕ))
left_by_one change key = cond (eq_by_cmp key_cmp key (key_in change)) (Some (value_in change)) None

abbrev pub left_by : List Change → Key → Option (Option (List ℕ))
left_by [] key = None
left_by (change ∷ more) key = or_else (left_by more key) (left_by_one change key)

-- what the first of them leaves there
abbrev pub first_by : List Change → Key → Option (Option (List ℕ))
first_by [] key = None
first_by (change ∷ more) key = or_else (left_by_one change key) (first_by more key)

-- a row after that
abbrev pub left_or : Option (Option (List ℕ)) → Option (List ℕ) → Option (List ℕ)
left_or None before = before
left_or (Some left) before = left

-- the changes lead from the old rows to the new
abbrev pub Lead : Rows → Rows → List Change → Type 0
Lead old new changes = (key : Key) → new key ≡ left_or (left_by changes key) (old key)

-- rows of some kinds, and no changes of others
pub record LeadWithin (mine : ℕ → Bool) (old new : Rows) (changes : List Change) : Type 0 where
  pub own : (key : Key) → mine key.0 ≡ true → new key ≡ left_or (left_by changes key) (old key)
  pub others : (key : Key) → mine key.0 ≡ false → left_by changes key ≡ None

-- the changes of rows of a kind begin with what was there: at each key the first one leaves the old row
abbrev pub Begin : ℕ → Rows → List Change → Type 0
Begin kind old changes = (key : Key) → key.0 ≡ kind → IfSome (first_by changes key) (λ left. left ≡ old key)

-- a row of a kind is named only where it changes
abbrev pub Differ : ℕ → Rows → List Change → Type 0
Differ kind old changes = (key : Key) → key.0 ≡ kind → IfSome (left_by changes key) (λ left. left ≢ old key)

-- a change names the row at the key
abbrev pub IsNamed : List Change → Key → Type 0
IsNamed changes key = left_by changes key ≢ None

-- each row that is named is another one in the new rows than in the old: what is put wasn't there, and what is removed was
abbrev pub AllDiffer : Rows → Rows → List Change → Type 0
AllDiffer old new changes = (key : Key) → IsNamed changes key → new key ≢ old key

-- each of another kind than this
abbrev pub OthersDiffer : ℕ → Rows → Rows → List Change → Type 0
OthersDiffer kind old new changes = (key : Key) → key.0 ≢ kind → IsNamed changes key → new key ≢ old key
