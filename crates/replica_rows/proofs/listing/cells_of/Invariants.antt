use Rattle.std.proofs.Common.{◌≡◌, ◌≤◌, length}
use Rattle.std.specs.FinMap as map
use Rattle.std.specs.Vec.Iter.{into_iter_items}
use Rattle.row_store.specs.Cells.{shown}
use Rattle.row_store.specs.Rows.{after_all}
use Rattle.replica_rows.proofs.listing.cells_of.Given as goal

abbrev pub invariant-loop-change : goal.invariant-loop-change
invariant-loop-change l = record {
  made : after_all (shown l.cells.entries) (into_iter_items l.change-iterator) ≡ after_all map.empty l.fn.changes.items;
  left : length (into_iter_items l.change-iterator) ≤ length l.fn.changes.items;
}
