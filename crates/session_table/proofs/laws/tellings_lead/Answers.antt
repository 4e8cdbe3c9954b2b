use Rattle.session_table.proofs.RowLaws.{begin-tells, call-tells, removal-leaves}
use Rattle.session_table.proofs.laws.tellings_lead.Goals as goal

pub returns-clause-call : goal.returns-clause-call
returns-clause-call c = call-tells c.told_changes_lead.ensures c.stays_since.ensures

pub returns-clause-begin : goal.returns-clause-begin
returns-clause-begin c = begin-tells c.told_changes_lead.ensures

pub returns-clause-removal : goal.returns-clause-removal
returns-clause-removal c = removal-leaves c.removals_leave_none.ensures c.stays_since.ensures
