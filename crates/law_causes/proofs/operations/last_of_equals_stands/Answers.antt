use Rattle.law_causes.proofs.LastLaws.{last_of_equals_stands}
use Rattle.law_causes.proofs.operations.last_of_equals_stands.Goals as goal

pub returns : goal.returns
returns c = last_of_equals_stands
