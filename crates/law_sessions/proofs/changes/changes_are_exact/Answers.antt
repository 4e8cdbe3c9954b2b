use Rattle.law_sessions.proofs.LeadLaws.{changes_exact}
use Rattle.law_sessions.proofs.changes.changes_are_exact.Goals as goal

pub returns : goal.returns
returns c = changes_exact
