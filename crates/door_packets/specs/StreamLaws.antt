-- What holds of bytes that came.
use Rattle.std.specs.Prelude.{◌≡◌, ℕ, List, ◌++◌, map, Bool, true, Some, Ok}
use Rattle.std.specs.List.{AllByRecursion}
use Rattle.mqtt_packets.specs.Stream.{packet_at}
use Rattle.mqtt_packets.specs.declared.packet.Packet.{Packet}
use Rattle.mqtt_packets.specs.declared.packet.Packet.TheVariants as packets
use Rattle.mqtt_bounds.specs.Pieces.{cut}
use Rattle.mqtt_bounds.specs.declared.cut.End.TheVariants as ends
use Rattle.door_packets.specs.Rights.{Rights}
use Rattle.door_packets.specs.declared.access.Login.{Login}
use Rattle.door_packets.specs.Packets.{has_topic}
use Rattle.door_packets.specs.declared.client.Client.{Client}
use Rattle.door_packets.specs.declared.client.Stage.TheVariants as stages
use Rattle.door_packets.specs.declared.step.Step.TheVariants as steps
use Rattle.door_packets.specs.Coming.{come, limit}

-- a packet that this client may send, where a PUBLISH names its topic
abbrev pub IsSendable : Rights → Login → Packet → Type 0
IsSendable r l (packets.Publish p) = (has_topic p ≡ true) × (r.may_write l p.topic ≡ true)
IsSendable r l (packets.Subscribe s) = AllByRecursion (λ f. r.may_subscribe l f.filter ≡ true) s.filters
IsSendable r l p = Unit {0}

abbrev pub ReadsSendable : Rights → Login → List ℕ → Type 0
ReadsSendable r l bs = (p : Packet) (rest : List ℕ) → packet_at bs ≡ Ok (Some (p, rest)) → IsSendable r l p

-- where all packets that bytes complete are so, they are told as they came and in their order, and nothing else is done
abbrev pub AllGoOn : Type 0
AllGoOn =
    (r : Rights) (marked : List ℕ → Bool) (c : Client) (l : Login) (bytes : List ℕ) → c.stage ≡ stages.Open → c.login ≡ Some l → (cut limit (c.partial ++ bytes)).end ≡ ends.Open
    → AllByRecursion (ReadsSendable r l) (cut limit (c.partial ++ bytes)).packets → (come r marked c bytes).steps ≡ map (λ p. steps.Tells p) (cut limit (c.partial ++ bytes)).packets
