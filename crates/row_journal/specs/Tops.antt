-- Which rows with a number as their place a store has none of: for each kind and owner a greatest place is known.
use Rattle.std.specs.Prelude.{◌≡◌, ◌≢◌, ◌≤◌, ◌⊎◌, ◌++◌, ℕ, Bool, true, false, not, List, [], length, Option, Some, None}
use Rattle.std.specs.Cmp.Lexicographic.{slice_cmp}
use Rattle.std.specs.FinMap.{get}
use Rattle.std.specs.Ordering.{is_lt, nat_cmp}
use Rattle.row_store.specs.declared.memory.RowKey.{RowKey}
use Rattle.row_store.specs.declared.row.Row.{Row}
use Rattle.row_store.specs.declared.row.Change.{Change}
use Rattle.row_store.specs.declared.row.Change.TheVariants.{Put, Remove}
use Rattle.row_store.specs.Cells.{Cell, cell_at}
use Rattle.row_store.specs.Rows.{Key, Content, key_of}
use Rattle.row_store.specs.Leading.{key_in, left_by, value_in}
use Rattle.row_store.specs.Gathered.{AreOnce}
use Rattle.row_journal.specs.Journal.{IsNoted}

-- the greatest places, each under its kind and owner and no place
abbrev pub Tops : Type 0
Tops = List (RowKey × Cell)

-- whether a place isn't above the greatest one
abbrev pub is_within : Option Cell → List ℕ → Bool
is_within None place = false
is_within (Some None) place = false
is_within (Some (Some top)) place = not (is_lt (slice_cmp nat_cmp top.items place))

abbrev pub shelf : Key → Key
shelf key = (key.0, (key.1.0, []))

abbrev pub may_have : Tops → Key → Bool
may_have tops key = is_within (cell_at tops (shelf key)) key.1.1

-- a place that is a number, or begins with one, of another kind than the journal's
abbrev pub IsNumbered : Key → Type 0
IsNumbered key = (8 ≤ length key.1.1) × (key.0 ≢ 240)

-- no row stands above the greatest place
abbrev pub Covers : Tops → Content → Type 0
Covers tops c = (q : Key) → IsNumbered q → may_have tops q ≡ false → get c q ≡ None

-- what may stand under these may stand under those
abbrev pub Grows : Tops → Tops → Type 0
Grows old new = (q : Key) → may_have old q ≡ true → may_have new q ≡ true

abbrev pub AllowsRow : Tops → Row → Type 0
AllowsRow tops row = IsNumbered (key_of row) → may_have tops (key_of row) ≡ true

abbrev pub Allows : Tops → Change → Type 0
Allows tops (Put row) = AllowsRow tops row
Allows tops (Remove kind owner place) = Unit {0}

-- the change removes a row that isn't there
abbrev pub IsIdle : Tops → Change → Type 0
IsIdle tops change = (value_in change ≡ None) × IsNumbered (key_in change) × (may_have tops (key_in change) ≡ false)

-- these leave what those do, but for removals of rows that aren't there
pub record Leaves (tops : Tops) (these those : List Change) : Type 0 where
  pub each : (q : Key) → (left_by these q ≡ left_by those q) ⊎ ((left_by those q ≡ Some None) × (left_by these q ≡ None) × IsNumbered q × (may_have tops q ≡ false))

-- of changes that name each key once, with whatever comes after them
abbrev pub IsNeeded : Tops → List Change → List Change → Type 0
IsNeeded tops these those = (rest : List Change) → AreOnce (those ++ rest) → Leaves tops these those

-- what a journal and the greatest places tell of a store
pub record IsKept (c : Content) (noted : List Change) (count : ℕ) (tops : Tops) : Type 0 where
  pub journal : IsNoted c noted count
  pub covers : Covers tops c
