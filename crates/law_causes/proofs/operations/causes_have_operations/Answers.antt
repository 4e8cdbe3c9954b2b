use Rattle.law_causes.proofs.RequestLaws.{causes_have_operations}
use Rattle.law_causes.proofs.operations.causes_have_operations.Goals as goal

pub returns : goal.returns
returns c = causes_have_operations
