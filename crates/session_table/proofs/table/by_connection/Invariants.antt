use Rattle.std.proofs.Common.{◌≡◌, []}
use Rattle.std.specs.Vec.Iter.{into_iter_items}
use Rattle.session_table.specs.Listing.{table}
use Rattle.session_table.proofs.Walking.{Gathers}
use Rattle.session_table.proofs.table.by_connection.Given as goal

abbrev pub invariant-loop-due : goal.invariant-loop-due
invariant-loop-due l = record {
  so : Gathers (table l.seats.entries) l.fn.dues.items l.order (into_iter_items l.due-iterator);
  none : l.fn.dues.items ≡ [] → into_iter_items l.due-iterator ≡ [];
}
