-- The packets by which a server answers its client.
use Rattle.std.specs.Prelude.{ℕ, Bool, nat_le, List, [], ◌∷◌, ◌++◌, length}
use Rattle.mqtt_fields.specs.declared.value.Property.{Property}
use Rattle.mqtt_fields.specs.declared.value.Value.TheVariants.{Two, Four, Text}
use Rattle.mqtt_packets.specs.declared.ack.Ack.{Ack}
use Rattle.mqtt_packets.specs.declared.packet.Packet.{Packet}
use Rattle.mqtt_packets.specs.declared.packet.Packet.TheVariants.{Connack, Puback, Pubrec, Pubrel, Pubcomp, Suback, Unsuback, Disconnect}
use Rattle.mqtt_packets.specs.Written.{written}

abbrev pub ack : ℕ → ℕ → Ack
ack id code = record { identifier = id; reason = code; properties = [] }

abbrev pub puback : ℕ → ℕ → Packet
puback id code = Puback (ack id code)

abbrev pub pubrec : ℕ → ℕ → Packet
pubrec id code = Pubrec (ack id code)

abbrev pub pubrel : ℕ → ℕ → Packet
pubrel id code = Pubrel (ack id code)

abbrev pub pubcomp : ℕ → ℕ → Packet
pubcomp id code = Pubcomp (ack id code)

abbrev pub suback : ℕ → List ℕ → Packet
suback id codes = Suback (record { identifier = id; properties = []; reasons = codes })

abbrev pub unsuback : ℕ → List ℕ → Packet
unsuback id codes = Unsuback (record { identifier = id; properties = []; reasons = codes })

abbrev pub disconnect : ℕ → Packet
disconnect code = Disconnect (record { reason = code; properties = [] })

-- the Assigned Client Identifier, to a client that gave none (MQTT 5.0, 3.2.2.3.7)
abbrev pub assigned : List ℕ → List ℕ → List Property
assigned [] client = record { id = 18; value = Text client } ∷ []
assigned (b ∷ bs) client = []

-- CONNACK to a client that is accepted (3.2): Receive Maximum 100, Topic Alias Maximum 16, Maximum Packet Size 1,048,576
abbrev pub connack : Bool → List ℕ → List ℕ → Packet
connack present given client = Connack (record {
  session_present = present;
  reason = 0;
  properties = assigned given client ++ record { id = 33; value = Two 100 } ∷ record { id = 34; value = Two 16 } ∷ record { id = 39; value = Four 1048576 } ∷ [];
})

-- a packet isn't longer than the client takes (3.1.2.11.4)
abbrev pub fits : ℕ → Packet → Bool
fits limit p = nat_le (length (written p)) limit
