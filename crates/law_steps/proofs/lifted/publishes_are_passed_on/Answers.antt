use Rattle.law_steps.proofs.LiftedLaws.{publishes_are_passed_on}
use Rattle.law_steps.proofs.lifted.publishes_are_passed_on.Goals as goal

pub returns : goal.returns
returns c = publishes_are_passed_on
