-- Places for rows in memory, of which some are vacant.
use Rattle.std.specs.Prelude.{ℕ, List, [], ◌∷◌, Vec, Option, Some, None, IsSome}
use Rattle.std.specs.Ordering.{eq_by_cmp}
use Rattle.std.specs.FinMap.{empty, insert, remove}
use Rattle.std.specs.Map.{lookup}
use Rattle.std.specs.List.{All}
use Rattle.std.specs.declared.alloc.Global.{Global}
use Rattle.row_store.specs.declared.memory.RowKey.{RowKey}
use Rattle.row_store.specs.declared.memory.Step.{Step}
use Rattle.row_store.specs.Rows.{Key, Content, key_cmp}

abbrev pub Cell : Type 0
Cell = Option (Vec ℕ Global)

abbrev pub plain_key : RowKey → Key
plain_key n = (n.kind, (n.owner.items, n.place.items))

-- the place at a key, if there is one
abbrev pub cell_at : List (RowKey × Cell) → Key → Option Cell
cell_at cells key = lookup (λ n. eq_by_cmp key_cmp key (plain_key n)) cells

abbrev pub fill : Content → Key → Cell → Content
fill c key (Some value) = insert c key value.items
fill c key None = remove c key

-- the rows that fill places
abbrev pub shown : List (RowKey × Cell) → Content
shown [] = empty
shown (e ∷ cells) = fill (shown cells) (plain_key e.0) e.1

abbrev pub after_step : Content → Step → Content
after_step c step = fill c (plain_key step.key) step.value

abbrev pub after_steps : Content → List Step → Content
after_steps c [] = c
after_steps c (step ∷ steps) = after_steps (after_step c step) steps

-- a value that is put has a place
abbrev pub IsReady : List (RowKey × Cell) → Step → Type 0
IsReady cells step = IsSome step.value → IsSome (cell_at cells (plain_key step.key))

abbrev pub AreReady : List (RowKey × Cell) → List Step → Type 0
AreReady cells steps = All (IsReady cells) steps

-- the same as a list
abbrev pub filled : List (RowKey × Cell) → List (Key × List ℕ)
filled [] = []
filled ((n, Some value) ∷ cells) = (plain_key n, value.items) ∷ filled cells
filled ((n, None) ∷ cells) = filled cells
