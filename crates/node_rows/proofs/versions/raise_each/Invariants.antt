use Rattle.std.proofs.Common.{map as map_list, take}
use Rattle.row_store.specs.Rows.{entry_of}
use Rattle.node_rows.specs.Versions.{AreRaising}
use Rattle.node_rows.proofs.versions.raise_each.Given as goal

abbrev pub invariant-loop-row : goal.invariant-loop-row
invariant-loop-row l = AreRaising l.first (map_list entry_of (take l.row-index l.rows)) l.changes.items
