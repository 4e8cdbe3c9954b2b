-- Which frames a node takes.
use Rattle.std.specs.Prelude.{ℕ, Bool, true, ◌&&◌, not, nat_eq, nat_lt, List, [], ◌∷◌}
use Rattle.replica_store.specs.States.{State}
use Rattle.bridge_frames.specs.declared.body.FrameBody.{FrameBody}
use Rattle.bridge_frames.specs.declared.body.FrameBody.TheVariants.{Hello, Delta, Know, Forward, Got}
use Rattle.bridge_frames.specs.declared.frame.BridgeFrame.{BridgeFrame}
use Rattle.node_rows.specs.Naming.{dots_among, state_among}
use Rattle.node_work.specs.View.{Place, nodes_of}

-- what a frame says names none but nodes of the cluster: a state, or dots, may name others where it is forged
abbrev pub names_nodes : ℕ → FrameBody → Bool
names_nodes nodes (Hello g) = dots_among nodes g.dots
names_nodes nodes (Delta s) = state_among nodes s
names_nodes nodes (Know dots) = dots_among nodes dots
names_nodes nodes (Forward number m) = true
names_nodes nodes (Got number) = true

-- a frame is for this node: it is sent to it, from another node of the cluster, and names none but nodes of the cluster
abbrev pub is_for_node : Place → BridgeFrame → Bool
is_for_node p frame = nat_eq frame.to p.id && not (nat_eq frame.from p.id) && nat_lt frame.from (nodes_of p) && names_nodes (nodes_of p) frame.body

-- another node of the cluster
abbrev pub is_other : Place → ℕ → Bool
is_other p peer = not (nat_eq peer p.id) && nat_lt peer (nodes_of p)

abbrev pub states_in : FrameBody → List State
states_in (Hello g) = []
states_in (Delta s) = s ∷ []
states_in (Know dots) = []
states_in (Forward number m) = []
states_in (Got number) = []
