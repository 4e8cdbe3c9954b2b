use Rattle.session_records.proofs.sql.SqlRows.adopt.Goals as goal

pub returns-in-Ok-clause-crash : goal.returns-in-Ok-clause-crash
returns-in-Ok-clause-crash g c clean x left = rw c.set_step_limit.ensures at (c.take_table.ensures.crash clean x left)

pub returns-in-Err-clause-crash_err : goal.returns-in-Err-clause-crash_err
returns-in-Err-clause-crash_err g c clean x left = rw c.set_step_limit.ensures at (c.take_table.ensures.crash clean x left)
