use Rattle.cluster_play.proofs.Agreeing.{node_holds, own_dots, delta_frames}
use Rattle.cluster_play.proofs.laws.nodes_hold_their_operations.Goals as goal

pub returns : goal.returns
returns c = record { nodes = node_holds; dots = own_dots; frames = delta_frames }
