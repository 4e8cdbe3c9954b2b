use Rattle.law_sessions.proofs.LiftLaws.{keeps_numbers}
use Rattle.law_sessions.proofs.identifiers.identifiers_are_distinct.Goals as goal

pub returns : goal.returns
returns c = keeps_numbers
