use Rattle.std.proofs.Common.{◌≡◌, ◌++◌, map}
use Rattle.row_store.specs.Cells.{filled}
use Rattle.row_store.specs.Rows.{entry_of}
use Rattle.replica_rows.proofs.listing.rows_in.Given as goal

abbrev pub invariant-loop-key : goal.invariant-loop-key
invariant-loop-key l = record { listed : map entry_of l.rows.items ++ filled l.key-iterator ≡ filled l.fn.cells.entries }
