use Rattle.law_steps.proofs.Fixed.{laws_determine}
use Rattle.law_steps.proofs.determining.laws_determine.Goals as goal

pub returns : goal.returns
returns c = laws_determine
