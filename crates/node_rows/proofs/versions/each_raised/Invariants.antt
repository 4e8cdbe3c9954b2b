use Rattle.std.proofs.Common.{◌≡◌, map as map_list, take}
use Rattle.row_store.specs.Rows.{entry_of}
use Rattle.node_rows.specs.Versions.{raised_each}
use Rattle.node_rows.proofs.versions.each_raised.Given as goal

abbrev pub invariant-loop-row : goal.invariant-loop-row
invariant-loop-row l = map_list entry_of l.made.items ≡ raised_each l.first (map_list entry_of (take l.row-index l.rows))
