use Rattle.law_causes.proofs.Having.{steps_have_numbers}
use Rattle.law_causes.proofs.stops.steps_have_numbers.Goals as goal

pub returns : goal.returns
returns c = steps_have_numbers
