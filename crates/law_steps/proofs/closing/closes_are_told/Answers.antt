use Rattle.law_steps.proofs.DueLaws.{closes_are_told}
use Rattle.law_steps.proofs.closing.closes_are_told.Goals as goal

pub returns : goal.returns
returns c = closes_are_told
