use Rattle.law_steps.proofs.Keeping.{steps_keep_laws}
use Rattle.law_steps.proofs.determining.steps_keep_laws.Goals as goal

pub returns : goal.returns
returns c = steps_keep_laws
