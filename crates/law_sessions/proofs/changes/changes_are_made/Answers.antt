use Rattle.law_sessions.proofs.LeadLaws.{changes_made}
use Rattle.law_sessions.proofs.changes.changes_are_made.Goals as goal

pub returns : goal.returns
returns c = changes_made
