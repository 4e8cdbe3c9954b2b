use Rattle.law_sessions.proofs.LiftLaws.{keeps_least}
use Rattle.law_sessions.proofs.identifiers.identifiers_are_least.Goals as goal

pub returns : goal.returns
returns c = keeps_least
