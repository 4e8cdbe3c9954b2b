use Rattle.law_sessions.proofs.ToldLaws.{stores}
use Rattle.law_sessions.proofs.saved.told_rows_are_stored.Goals as goal

pub returns : goal.returns
returns c = stores c.told_changes_lead.ensures c.changes_are_made.ensures
