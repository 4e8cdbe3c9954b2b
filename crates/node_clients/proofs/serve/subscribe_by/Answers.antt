use Rattle.std.proofs.Common.{◌≡◌, ℕ, List, Some, refl}
use Rattle.mqtt_packets.specs.declared.packet.Packet.{Packet}
use Rattle.mqtt_packets.specs.declared.packet.Packet.TheVariants as packets
use Rattle.mqtt_packets.specs.declared.subscribe.Subscribe.{Subscribe}
use Rattle.node_work.specs.View.{WorkView}
use Rattle.node_work.specs.Working.{Did}
use Rattle.node_work.proofs.Working.{did_nothing}
use Rattle.node_clients.specs.Serving.{SubscribesBy}
use Rattle.node_clients.proofs.serve.subscribe_by.Goals as goal

-- another packet asks for nothing
none_by : (c : ℕ) (client : List ℕ) (p : Packet) (w : WorkView) → ((x : Subscribe) → p ≡ packets.Subscribe x → ⊥) → Did w w (SubscribesBy c client p (Some tt))
none_by c client (packets.Subscribe x) w other = absurd (other x refl)
none_by c client (packets.Connect x) w other = did_nothing w tt
none_by c client (packets.Connack x) w other = did_nothing w tt
none_by c client (packets.Publish x) w other = did_nothing w tt
none_by c client (packets.Puback x) w other = did_nothing w tt
none_by c client (packets.Pubrec x) w other = did_nothing w tt
none_by c client (packets.Pubrel x) w other = did_nothing w tt
none_by c client (packets.Pubcomp x) w other = did_nothing w tt
none_by c client (packets.Suback x) w other = did_nothing w tt
none_by c client (packets.Unsubscribe x) w other = did_nothing w tt
none_by c client (packets.Unsuback x) w other = did_nothing w tt
none_by c client (packets.Disconnect x) w other = did_nothing w tt
none_by c client (packets.Auth x) w other = did_nothing w tt
none_by c client packets.Pingreq w other = did_nothing w tt
none_by c client packets.Pingresp w other = did_nothing w tt

pub returns-in_default : goal.returns-in_default
returns-in_default c = none_by c.args.connection c.args.client.now c.args.packet.now c.args.work.now c.in_default.not-Subscribe
