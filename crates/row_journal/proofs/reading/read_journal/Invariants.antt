use Rattle.std.proofs.Common.{◌≤◌, map, take}
use Rattle.row_store.specs.Rows.{entry_of}
use Rattle.row_journal.specs.Reading.{IsRead}
use Rattle.row_journal.proofs.reading.read_journal.Given as goal

abbrev pub invariant-loop-row : goal.invariant-loop-row
invariant-loop-row l = record {
  read : IsRead (map entry_of (take l.row-index l.rows)) l.journal.noted.items l.journal.count;
  few : l.journal.count ≤ l.row-index;
}
