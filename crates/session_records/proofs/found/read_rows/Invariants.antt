use Rattle.std.proofs.Common.{◌≡◌, map, take}
use Rattle.session_records.proofs.found.read_rows.Given as goal
use Rattle.row_store.specs.Rows.{entry_of}
use Rattle.session_records.specs.Stored.{entry_shown}

abbrev pub invariant-loop-row : goal.invariant-loop-row
invariant-loop-row l = record { read : map entry_of l.rows.items ≡ map entry_shown (take l.row-index l.found) }
