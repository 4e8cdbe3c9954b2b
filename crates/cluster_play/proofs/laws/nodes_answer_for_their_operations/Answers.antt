use Rattle.cluster_play.proofs.Showing.{node_shows, node_answers, node_holds_amid}
use Rattle.cluster_play.proofs.laws.nodes_answer_for_their_operations.Goals as goal

pub returns : goal.returns
returns c = record { live = node_shows; answers = node_answers; amid = node_holds_amid }
