use Rattle.std.proofs.Common.{inl, inr, refl}
use Rattle.row_store.specs.Rows.{entry_of}
use Rattle.replica_rows.proofs.Taking.{no_dots}
use Rattle.replica_rows.proofs.reading.take_dots.Goals as goal

pub returns-in-Ok-clause-ok : goal.returns-in-Ok-clause-ok
returns-in-Ok-clause-ok c = inl (c.in-Ok.taken, c.in-Ok.ensures.found, refl)

pub returns-in-Err-clause-bad : goal.returns-in-Err-clause-bad
returns-in-Err-clause-bad c = no_dots (entry_of c.args.row.now) 1 c.in-Err.fault c.in-Err.ensures.found

pub returns-in-Ok-read_context_row-clause-ok : goal.returns-in-Ok-read_context_row-clause-ok
returns-in-Ok-read_context_row-clause-ok c = inr (c.in-Ok-read_context_row.seen, c.in-Ok-read_context_row.ensures.found, refl)

pub returns-in-Err-read_context_row-clause-bad : goal.returns-in-Err-read_context_row-clause-bad
returns-in-Err-read_context_row-clause-bad c = no_dots (entry_of c.args.row.now) 2 c.in-Err-read_context_row.fault c.in-Err-read_context_row.ensures.found
