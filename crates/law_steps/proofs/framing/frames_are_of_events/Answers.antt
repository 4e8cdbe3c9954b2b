use Rattle.law_steps.proofs.Frames.{frames_are_of_events}
use Rattle.law_steps.proofs.framing.frames_are_of_events.Goals as goal

pub returns : goal.returns
returns c = frames_are_of_events
