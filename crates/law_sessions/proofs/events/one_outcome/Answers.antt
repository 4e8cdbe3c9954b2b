use Rattle.law_sessions.proofs.OutcomeLaws.{one_outcome, ends_or_reacts}
use Rattle.law_sessions.proofs.events.one_outcome.Goals as goal

pub returns-clause-outcome : goal.returns-clause-outcome
returns-clause-outcome c = one_outcome

pub returns-clause-ends : goal.returns-clause-ends
returns-clause-ends c = ends_or_reacts
