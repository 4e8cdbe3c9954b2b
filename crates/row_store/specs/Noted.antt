-- What changes leave at each key, noted under the key.
use Rattle.std.specs.Prelude.{◌≡◌, ℕ, Bool, List, Option, Some, None, option_map}
use Rattle.std.specs.Option.{option_eq}
use Rattle.std.specs.Str.{bytes_eq}
use Rattle.row_store.specs.declared.memory.RowKey.{RowKey}
use Rattle.row_store.specs.declared.row.Change.{Change}
use Rattle.row_store.specs.Cells.{Cell, plain_key, cell_at}
use Rattle.row_store.specs.Rows.{Key}
use Rattle.row_store.specs.Gathered.{first_in}
use Rattle.row_store.specs.Leading.{key_in, value_in, left_by, or_else}

-- a key, and what is left there
abbrev pub Pair : Type 0
Pair = Key × Option (List ℕ)

abbrev pub plain_value : Cell → Option (List ℕ)
plain_value None = None
plain_value (Some value) = Some value.items

abbrev pub pair_of : Change → Pair
pair_of change = (key_in change, value_in change)

abbrev pub noted_pair : RowKey × Cell → Pair
noted_pair e = (plain_key e.0, plain_value e.1)

-- what is noted at the key, if anything is
abbrev pub noted : List (RowKey × Cell) → Key → Option (Option (List ℕ))
noted cells key = option_map plain_value (cell_at cells key)

-- whether just this is noted at the key
abbrev pub is_noted : List (RowKey × Cell) → RowKey × Cell → Bool
is_noted cells e = option_eq (option_eq bytes_eq) (noted cells (plain_key e.0)) (Some (plain_value e.1))

-- what the last of the changes at each key leaves
abbrev pub AreLast : List (RowKey × Cell) → List Change → Type 0
AreLast lefts changes = (key : Key) → noted lefts key ≡ left_by changes key

-- what the first of the changes at each key of the kind leaves, and in a second table what the last of the others leaves
pub record AreNoted (kind : ℕ) (befores lefts : List (RowKey × Cell)) (changes : List Change) : Type 0 where
  pub firsts : (key : Key) → noted befores key ≡ first_in kind changes key
  pub lasts : (key : Key) → or_else (noted lefts key) (noted befores key) ≡ left_by changes key
