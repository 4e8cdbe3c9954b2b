use Rattle.law_steps.proofs.Released.{frames_are_given}
use Rattle.law_steps.proofs.framing.released_was_given.Goals as goal

pub returns : goal.returns
returns c = frames_are_given
