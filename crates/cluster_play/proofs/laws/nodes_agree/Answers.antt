use Rattle.cluster_play.proofs.Agreeing.{same_taken, nodes_alike, answers_agree}
use Rattle.cluster_play.proofs.laws.nodes_agree.Goals as goal

pub returns : goal.returns
returns c = record { taken = same_taken; states = nodes_alike; answers = answers_agree }
