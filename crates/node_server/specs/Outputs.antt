-- What a node gives out, as what sockets are given.
use Rattle.std.specs.Prelude.{◌≡◌, ℕ, List, [], ◌∷◌, flat_map, map}
use Rattle.node_work.specs.declared.outcome.Output.{Output}
use Rattle.node_work.specs.declared.outcome.Output.TheVariants as outputs
use Rattle.broker_sockets.specs.declared.bridge.PeerFrame.{PeerFrame}
use Rattle.broker_sockets.specs.declared.events.Output.{Output as Handed}
use Rattle.broker_sockets.specs.declared.events.Output.TheVariants as handed

-- an output to the sockets is one of the node, by its bytes
abbrev pub seen : Handed → Output
seen (handed.Send connection bytes) = outputs.Send connection bytes.items
seen (handed.Close connection) = outputs.Close connection

-- an output for a client; frames go to other nodes
abbrev pub to_client : Output → List Output
to_client (outputs.Send connection bytes) = outputs.Send connection bytes ∷ []
to_client (outputs.Close connection) = outputs.Close connection ∷ []
to_client (outputs.Frame frame) = []

-- the sockets are given just what is for clients, in order
abbrev pub AreForClients : List Output → List Handed → Type 0
AreForClients made given = map seen given ≡ flat_map to_client made

-- a frame by the number of the node that it is for and its bytes
abbrev pub seen_frame : PeerFrame → ℕ × List ℕ
seen_frame frame = (frame.peer, frame.bytes.items)

abbrev pub to_peer : Output → List (ℕ × List ℕ)
to_peer (outputs.Send connection bytes) = []
to_peer (outputs.Close connection) = []
to_peer (outputs.Frame frame) = (frame.to, frame.bytes) ∷ []

-- and just what is for other nodes
abbrev pub AreForPeers : List Output → List PeerFrame → Type 0
AreForPeers made frames = map seen_frame frames ≡ flat_map to_peer made
