use Rattle.std.proofs.Common.{◌≡◌, ◌++◌, map, take}
use Rattle.row_store.specs.Rows as store
use Rattle.session_rows.specs.Rows.{rows_at}
use Rattle.session_rows.proofs.told.push_rows.Given as goal

abbrev pub invariant-loop-place : goal.invariant-loop-place
invariant-loop-place l = map store.entry_of l.rows.items ≡ map store.entry_of l.fn.rows.items ++ rows_at l.client l.outgoing.box.copies (take l.place-index l.places)
