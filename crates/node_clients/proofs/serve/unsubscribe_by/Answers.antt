use Rattle.std.proofs.Common.{◌≡◌, ℕ, List, Some, refl}
use Rattle.mqtt_packets.specs.declared.packet.Packet.{Packet}
use Rattle.mqtt_packets.specs.declared.packet.Packet.TheVariants.{Connect, Connack, Publish, Puback, Pubrec, Pubrel, Pubcomp, Subscribe, Suback, Unsubscribe, Unsuback, Pingreq, Pingresp, Disconnect, Auth}
use Rattle.mqtt_packets.specs.declared.unsubscribe.Unsubscribe.{Unsubscribe as Request}
use Rattle.node_work.specs.View.{WorkView}
use Rattle.node_work.specs.Working.{Did}
use Rattle.node_work.proofs.Working.{did_nothing}
use Rattle.node_clients.specs.Serving.{UnsubscribesBy}
use Rattle.node_clients.proofs.serve.unsubscribe_by.Goals as goal

-- another packet asks for nothing
none_asked : (w : WorkView) (at : ℕ) (client : List ℕ) (p : Packet) → ((x : Request) → p ≡ Unsubscribe x → ⊥) → Did w w (UnsubscribesBy at client p (Some tt))
none_asked w at client (Unsubscribe x) other = absurd (other x refl)
none_asked w at client (Connect x) other = did_nothing w tt
none_asked w at client (Connack x) other = did_nothing w tt
none_asked w at client (Publish x) other = did_nothing w tt
none_asked w at client (Puback x) other = did_nothing w tt
none_asked w at client (Pubrec x) other = did_nothing w tt
none_asked w at client (Pubrel x) other = did_nothing w tt
none_asked w at client (Pubcomp x) other = did_nothing w tt
none_asked w at client (Subscribe x) other = did_nothing w tt
none_asked w at client (Suback x) other = did_nothing w tt
none_asked w at client (Unsuback x) other = did_nothing w tt
none_asked w at client (Disconnect x) other = did_nothing w tt
none_asked w at client (Auth x) other = did_nothing w tt
none_asked w at client Pingreq other = did_nothing w tt
none_asked w at client Pingresp other = did_nothing w tt

pub returns-in_default : goal.returns-in_default
returns-in_default c = none_asked c.args.work.now c.args.connection c.args.client.now c.args.packet.now c.in_default.not-Unsubscribe
