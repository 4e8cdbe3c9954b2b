-- How long a spelling is, if there is one.
use Rattle.std.specs.Prelude.{◌≡◌, ℕ, ◌<◌, ◌^◌, length, Option, Some, None}
use Rattle.mqtt_fields.specs.Field.{Field}
use Rattle.mqtt_packets.specs.declared.packet.Packet.{Packet}
use Rattle.mqtt_packets.specs.Body.{Body}
use Rattle.mqtt_packets.specs.Packet.{BodyFits, body_bytes}

-- a field's
abbrev pub MeasuresField : {A : Type 0} → Field A → A → Option ℕ → Type 0
MeasuresField f a None = f.Fits a → ⊥
MeasuresField f a (Some n) = f.Fits a × (n ≡ length (f.bytes a))

-- a body's; none where a packet has no room for it (MQTT 5.0, 2.1.4)
abbrev pub Measures : {A : Type 0} → Body A → A → Option ℕ → Type 0
Measures f a None = (f.Fits a × (length (f.bytes a) < 2 ^ 28)) → ⊥
Measures f a (Some n) = (f.Fits a × (length (f.bytes a) < 2 ^ 28)) × (n ≡ length (f.bytes a))

-- the body of a packet of any kind
abbrev pub MeasuresBody : Packet → Option ℕ → Type 0
MeasuresBody p None = (BodyFits p × (length (body_bytes p) < 2 ^ 28)) → ⊥
MeasuresBody p (Some n) = (BodyFits p × (length (body_bytes p) < 2 ^ 28)) × (n ≡ length (body_bytes p))
