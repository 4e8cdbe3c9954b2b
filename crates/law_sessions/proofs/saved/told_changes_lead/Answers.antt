use Rattle.law_sessions.proofs.ToldLaws.{leads}
use Rattle.law_sessions.proofs.saved.told_changes_lead.Goals as goal

pub returns : goal.returns
returns c = leads c.stays_since.ensures c.changes_lead.ensures c.changes_are_exact.ensures
