use Rattle.cluster_play.proofs.Believing.{believes_so, lacks_nothing_there}
use Rattle.cluster_play.proofs.laws.beliefs_are_true.Goals as goal

pub returns : goal.returns
returns c = record { beliefs = believes_so; nothing = lacks_nothing_there }
