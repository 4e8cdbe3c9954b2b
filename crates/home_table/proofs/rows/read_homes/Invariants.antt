use Rattle.std.proofs.Common.{◌≡◌, Some, length, map, take}
use Rattle.toml.specs.View.{view}
use Rattle.home_table.specs.Document.{each, home_row}
use Rattle.home_table.proofs.rows.read_homes.Given as goal

-- the rows so far
abbrev pub invariant-loop-value : goal.invariant-loop-value
invariant-loop-value l = (each home_row (map view (take l.value-index l.values)) ≡ Some l.homes.items) × (length l.homes.items ≡ l.value-index)
