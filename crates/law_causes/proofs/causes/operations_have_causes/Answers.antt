use Rattle.law_causes.proofs.CauseLaws.{operations_have_causes}
use Rattle.law_causes.proofs.causes.operations_have_causes.Goals as goal

pub returns : goal.returns
returns c = operations_have_causes
