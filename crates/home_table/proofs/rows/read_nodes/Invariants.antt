use Rattle.std.proofs.Common.{◌≡◌, Some, length, map, take}
use Rattle.toml.specs.View.{view}
use Rattle.home_table.specs.Document.{each, node_row}
use Rattle.home_table.proofs.rows.read_nodes.Given as goal

-- the rows so far
abbrev pub invariant-loop-value : goal.invariant-loop-value
invariant-loop-value l = (each node_row (map view (take l.value-index l.values)) ≡ Some l.nodes.items) × (length l.nodes.items ≡ l.value-index)
