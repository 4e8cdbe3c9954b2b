-- When the reading of rows wants memory.
use Rattle.std.specs.Prelude.{◌≡◌, ◌⊎◌, T, List, [], ◌∷◌, map as map_list}
use Rattle.std.specs.FinMap as map
use Rattle.mqtt_fields.specs.Numbers.{IsText}
use Rattle.causal_context.specs.Spelling.{WantsMemory}
use Rattle.row_store.specs.declared.row.Row.{Row}
use Rattle.row_store.specs.Rows.{Plain, key_cmp, entry_of}

-- the client of a subscription, a topic, or a range of dots has been read
abbrev pub RowWants : Plain → Type 0
RowWants row = ((row.0.0 ≡ 4) × IsText row.0.1.0)
    ⊎ ((row.0.0 ≡ 5) × (row.0.1.1 ≡ []) × IsText row.0.1.0)
    ⊎ ((row.0.0 ≡ 6) × (row.0.1.0 ≡ []) × WantsMemory row.1)

-- there is a first row, and it wants memory
abbrev pub FirstWants : List Row → Type 0
FirstWants [] = ⊥
FirstWants (row ∷ rows) = RowWants (entry_of row)

-- the rows rise by their keys, and the first wants memory
pub record RowsWant (rows : List Row) : Type 0 where
  pub rise : T (map.is_sorted key_cmp (map_list entry_of rows))
  pub first : FirstWants rows
