use Rattle.law_sessions.proofs.LeadLaws.{changes_lead}
use Rattle.law_sessions.proofs.changes.changes_lead.Goals as goal

pub returns : goal.returns
returns c = changes_lead
