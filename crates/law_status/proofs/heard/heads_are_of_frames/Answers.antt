use Rattle.law_status.proofs.Heads.{heads_are_of_frames}
use Rattle.law_status.proofs.heard.heads_are_of_frames.Goals as goal

pub returns : goal.returns
returns c = heads_are_of_frames
