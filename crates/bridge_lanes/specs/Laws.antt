-- Laws of the rows of lanes.
use Rattle.std.specs.Prelude.{◌≤◌, ◌^◌, ℕ, T}
use Rattle.std.specs.FinMap.{is_sorted}
use Rattle.bridge_lanes.specs.Lanes.{Lanes}
use Rattle.bridge_frames.specs.declared.forward.Forward.{Forward}
use Rattle.row_store.specs.Rows.{key_cmp}
use Rattle.bridge_lanes.specs.Rows.{rows_of}
use Rattle.bridge_lanes.specs.Reading.{AreLanes}

-- rows stand in the order of their keys, each once
abbrev pub RowsRise : Type 0
RowsRise = (nodes : ℕ) (lanes : Lanes Forward) → nodes ≤ 2 ^ 16 → AreLanes nodes lanes → T (is_sorted key_cmp (rows_of lanes))
