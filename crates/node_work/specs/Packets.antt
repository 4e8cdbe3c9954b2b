-- The packets that a node sends of its own, beside those of its sessions.
use Rattle.std.specs.Prelude.{ℕ, false, List, [], ◌∷◌, Option, Some, None}
use Rattle.mqtt_fields.specs.declared.value.Property.{Property}
use Rattle.mqtt_fields.specs.declared.value.Value.TheVariants.{Text}
use Rattle.std.specs.List.{AllByRecursion}
use Rattle.mqtt_packets.specs.declared.packet.Packet.{Packet}
use Rattle.mqtt_packets.specs.Written.{HasSpelling}
use Rattle.node_work.specs.declared.held.connections.Came.{Came}
use Rattle.node_work.specs.declared.held.connections.Came.TheVariants as came
use Rattle.mqtt_packets.specs.declared.packet.Packet.TheVariants.{Connack, Disconnect}

-- the Server Reference, where there is one (MQTT 5.0, 3.2.2.3.16)
abbrev pub reference_of : Option (List ℕ) → List Property
reference_of None = []
reference_of (Some address) = record { id = 28; value = Text address } ∷ []

-- CONNACK to a client that is refused (3.2)
abbrev pub refused_packet : ℕ → Option (List ℕ) → Packet
refused_packet reason reference = Connack (record { session_present = false; reason = reason; properties = reference_of reference })

-- DISCONNECT to a client whose home is at another server from now on: Server moved, and where (3.14.2.1 and 4.11)
abbrev pub moved_packet : List ℕ → Packet
moved_packet address = Disconnect (record { reason = 157; properties = reference_of (Some address) })

-- packets that came have a spelling each
abbrev pub HaveSpellings : List Packet → Type 0
HaveSpellings packets = AllByRecursion HasSpelling packets

abbrev pub CameSpelled : Came → Type 0
CameSpelled came.Nothing = Unit {0}
CameSpelled came.Failed = Unit {0}
CameSpelled (came.Packets fed) = HaveSpellings fed.packets.items
