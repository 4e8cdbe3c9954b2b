use Rattle.std.proofs.Common.{◌≡◌, ◌++◌, map}
use Rattle.row_store.specs.Cells.{filled}
use Rattle.row_store.proofs.memory.rows_of.Given as goal
use Rattle.row_store.specs.Rows.{entry_of}

abbrev pub invariant-loop-key : goal.invariant-loop-key
invariant-loop-key l = record { listed : map entry_of l.rows.items ++ filled l.key-iterator ≡ filled l.cells.entries }
