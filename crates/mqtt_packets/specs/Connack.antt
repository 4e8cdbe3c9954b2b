-- CONNACK (MQTT 5.0, 3.2).
use Rattle.std.specs.Prelude.{ℕ, ◌==◌, nat_lt, Bool, List}
use Rattle.std.specs.Int.{w8}
use Rattle.mqtt_fields.specs.declared.fault.FieldFault.TheVariants as fields
use Rattle.mqtt_fields.specs.declared.value.Property.{Property}
use Rattle.mqtt_fields.specs.declared.table.Place.TheVariants as places
use Rattle.mqtt_fields.specs.Field.{Field, tested}
use Rattle.mqtt_fields.specs.Numbers.{number}
use Rattle.mqtt_fields.specs.Block.{properties}
use Rattle.mqtt_packets.specs.declared.fault.PacketFault.TheVariants.{ProtocolError}
use Rattle.mqtt_packets.specs.declared.connack.Connack.{Connack}
use Rattle.mqtt_packets.specs.Body.{Body, only, then_, valid, as_}
use Rattle.mqtt_packets.specs.Values.{are_valid}
use Rattle.mqtt_packets.specs.Head.{bit}

-- the flags: Session Present, and seven bits that are 0
abbrev pub session_flag : Field ℕ
session_flag = tested (λ n. nat_lt n 2) fields.Malformed (number w8)

abbrev pub connack_of : ℕ × (ℕ × List Property) → Connack
connack_of x = record { session_present = x.0 == 1; reason = x.1.0; properties = x.1.1 }

abbrev pub connack_parts : Connack → ℕ × (ℕ × List Property)
connack_parts c = (bit c.session_present, (c.reason, c.properties))

abbrev pub is_valid_connack : Connack → Bool
is_valid_connack c = are_valid c.properties

unfoldable pub connack : Body Connack
connack = valid is_valid_connack ProtocolError (as_ connack_of connack_parts
    (then_ session_flag (λ _. then_ (number w8) (λ _. only (properties places.Connack)))))
