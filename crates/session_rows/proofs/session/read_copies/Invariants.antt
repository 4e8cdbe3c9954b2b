use Rattle.std.proofs.Common.{◌≡◌, map, drop, take}
use Rattle.std.specs.List.{AllByRecursion}
use Rattle.row_store.specs.Rows as store
use Rattle.session_rows.specs.Reading.{copies_in, HasBytes}
use Rattle.session_rows.proofs.CopiesLaws.{onto}
use Rattle.session_rows.proofs.session.read_copies.Given as goal

abbrev pub invariant-loop-row : goal.invariant-loop-row
invariant-loop-row l = record {
  said : onto l.copies.items (copies_in l.client (map store.entry_of (drop l.row-index l.rows))) ≡ copies_in l.client (map store.entry_of l.rows);
  bytes : AllByRecursion HasBytes (map store.entry_of (take l.row-index l.rows));
}
