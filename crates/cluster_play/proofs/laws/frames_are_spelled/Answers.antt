use Rattle.cluster_play.proofs.Agreeing.{frames_spelled}
use Rattle.cluster_play.proofs.laws.frames_are_spelled.Goals as goal

pub returns : goal.returns
returns c = frames_spelled
