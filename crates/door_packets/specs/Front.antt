-- The packet in front of some bytes.
use Rattle.std.specs.Prelude.{◌≡◌, ◌≤◌, ℕ, List, [], length, drop, Bool, Option, Some, None, Result, Ok}
use Rattle.std.specs.Int.{w16}
use Rattle.mqtt_fields.specs.Numbers.{number}
use Rattle.mqtt_fields.specs.declared.options.Qos.{Qos}
use Rattle.mqtt_fields.specs.declared.options.Qos.TheVariants as levels
use Rattle.mqtt_packets.specs.Head.{head_at}
use Rattle.mqtt_packets.specs.Packet.{head_of}
use Rattle.mqtt_packets.specs.Stream.{packet_at}
use Rattle.mqtt_packets.specs.declared.fault.PacketFault.{PacketFault}
use Rattle.mqtt_packets.specs.declared.packet.Packet.{Packet}
use Rattle.mqtt_packets.specs.declared.packet.Packet.TheVariants as packets
use Rattle.mqtt_packets.specs.declared.publish.Publish.{Publish}

-- none, whether it isn't whole or can't be read
abbrev pub IsNoPacket : Result (Option (Packet × List ℕ)) PacketFault → Type 0
IsNoPacket (Ok (Some x)) = ⊥
IsNoPacket r = Unit {0}

-- a packet, and what follows so many bytes
abbrev pub IsFront : List ℕ → Option (Packet × ℕ) → Type 0
IsFront bs (Some x) = (packet_at bs ≡ Ok (Some (x.0, drop x.1 bs))) × (x.1 ≤ length bs)
IsFront bs None = IsNoPacket (packet_at bs)

-- this PUBLISH
abbrev pub IsPublish : Publish → Result (Option (Packet × List ℕ)) PacketFault → Type 0
IsPublish p (Ok (Some x)) = x.0 ≡ packets.Publish p
IsPublish p r = ⊥

-- with these flags, and nothing else
abbrev pub bare : Bool → Qos → Bool → Publish
bare dup qos retain = record { dup = dup; qos = qos; retain = retain; topic = []; identifier = 0; properties = []; payload = [] }

-- the first byte of a PUBLISH with these flags
abbrev pub IsPublishHead : ℕ → Bool → Qos → Bool → Type 0
IsPublishHead first dup qos retain = head_at first ≡ Some (head_of (packets.Publish (bare dup qos retain)))

-- at QoS 0 none stands there, and it counts as 0
abbrev pub IsIdentifier : Qos → List ℕ → ℕ → List ℕ → Type 0
IsIdentifier levels.AtMostOnce bs n rest = (n ≡ 0) × (rest ≡ bs)
IsIdentifier level bs n rest = (number w16).at bs ≡ Ok (n, rest)
