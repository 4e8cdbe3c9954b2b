use Rattle.law_steps.proofs.AddLaws.{nothing_is_added}
use Rattle.law_steps.proofs.adding.nothing_is_added.Goals as goal

pub returns : goal.returns
returns c = nothing_is_added
