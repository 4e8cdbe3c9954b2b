use Rattle.std.proofs.Common.{◌∙◌}
use Rattle.session_records.proofs.sql.all_rows.Goals as goal

pub returns-clause-formed : goal.returns-clause-formed
returns-clause-formed g c clean is same = c.read_rows.ensures.formed (rw c.deref.ensures.value (c.in-Ok.ensures.formed clean is).0) (c.in-Err-read_rows.is ∙ same)
