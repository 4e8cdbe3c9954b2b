-- The PUBLISH by which a delivery is sent.
use Rattle.std.specs.Prelude.{ℕ, ◌≡◌, ◌<◌, ◌≤◌, Bool, false, List, [], ◌∷◌, ◌++◌, length, map, Option, Some, None}
use Rattle.mqtt_fields.specs.declared.options.Qos.{Qos}
use Rattle.mqtt_fields.specs.declared.options.Qos.TheVariants.{AtMostOnce, AtLeastOnce, ExactlyOnce}
use Rattle.mqtt_fields.specs.declared.value.Property.{Property}
use Rattle.mqtt_fields.specs.declared.value.Value.TheVariants as values
use Rattle.mqtt_packets.specs.declared.publish.Publish.{Publish}
use Rattle.mqtt_packets.specs.declared.packet.Packet.TheVariants as packets
use Rattle.mqtt_packets.specs.Packet.{body_bytes}
use Rattle.mqtt_packets.specs.Written.{written}
use Rattle.mqtt_message.specs.declared.delivery.Delivery.{Delivery}
use Rattle.mqtt_message.specs.Expiry.{interval_left}

-- the Message Expiry Interval that is left (MQTT 5.0, 3.3.2.3.3)
abbrev pub interval_property : Option ℕ → List Property
interval_property None = []
interval_property (Some seconds) = record { id = 2; value = values.Four seconds } ∷ []

-- a Subscription Identifier (3.3.2.3.8)
abbrev pub identifier_property : ℕ → Property
identifier_property n = record { id = 11; value = values.Vbi n }

-- the message's own properties, then the interval that is left, then the identifiers
abbrev pub sent_properties : Delivery → ℕ → List Property
sent_properties d now =
    d.message.properties ++ interval_property (interval_left now d.message.deadline) ++ map identifier_property d.identifiers

abbrev pub sent : Delivery → ℕ → Bool → ℕ → Publish
sent d now dup identifier = record {
  dup = dup;
  qos = d.qos;
  retain = d.retain;
  topic = d.message.topic;
  identifier = identifier;
  properties = sent_properties d now;
  payload = d.message.payload;
}

-- a Packet Identifier takes two bytes, and stands at QoS 1 and 2 alone (2.2.1)
abbrev pub identifier_len : Qos → ℕ
identifier_len AtMostOnce = 0
identifier_len AtLeastOnce = 2
identifier_len ExactlyOnce = 2

-- how long its body is, which follows Remaining Length (2.1.4), whatever its identifier and whether it was sent before
abbrev pub IsBodyLength : Delivery → ℕ → ℕ → Type 0
IsBodyLength d now n = (dup : Bool) (identifier : ℕ) → n ≡ length (body_bytes (packets.Publish (sent d now dup identifier)))

-- how long that packet is, written, whatever its identifier and whether it was sent before
abbrev pub IsSentLength : Delivery → ℕ → ℕ → Type 0
IsSentLength d now n = (dup : Bool) (identifier : ℕ) → n ≡ length (written (packets.Publish (sent d now dup identifier)))

-- a Packet Identifier isn't 0, which stands for none (2.2.1)
abbrev pub IsIdentifierAt : Qos → ℕ → Type 0
IsIdentifierAt AtMostOnce identifier = identifier ≡ 0
IsIdentifierAt AtLeastOnce identifier = (0 < identifier) × (identifier < 65536)
IsIdentifierAt ExactlyOnce identifier = (0 < identifier) × (identifier < 65536)

-- nothing is sent again at QoS 0 (3.3.1.1)
abbrev pub IsDupAt : Qos → Bool → Type 0
IsDupAt AtMostOnce dup = dup ≡ false
IsDupAt AtLeastOnce dup = Unit {0}
IsDupAt ExactlyOnce dup = Unit {0}

-- A PUBLISH may have this level, DUP flag, Packet Identifier and length. The longest packet has a first byte, four bytes of
-- Remaining Length, and a body of 268,435,455 bytes (2.1.4).
pub record IsSendable (level : Qos) (dup : Bool) (identifier len : ℕ) : Type 0 where
  pub identified : IsIdentifierAt level identifier
  pub again : IsDupAt level dup
  pub short : len ≤ 268435460
