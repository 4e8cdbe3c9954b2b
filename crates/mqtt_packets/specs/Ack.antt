-- PUBACK, PUBREC, PUBREL and PUBCOMP (MQTT 5.0, 3.4 to 3.7), with their short forms.
use Rattle.std.specs.Prelude.{ℕ, ◌==◌, not, ◌&&◌, Bool, List, [], length}
use Rattle.std.specs.Int.{w8, w16}
use Rattle.mqtt_fields.specs.declared.value.Property.{Property}
use Rattle.mqtt_fields.specs.declared.table.Place.{Place}
use Rattle.mqtt_fields.specs.Numbers.{number}
use Rattle.mqtt_fields.specs.Block.{properties}
use Rattle.mqtt_packets.specs.declared.fault.PacketFault.TheVariants.{ProtocolError}
use Rattle.mqtt_packets.specs.declared.ack.Ack.{Ack}
use Rattle.mqtt_packets.specs.Body.{Body, only, then_, or_none, valid, as_}
use Rattle.mqtt_packets.specs.Values.{are_valid}

abbrev pub is_plain : List Property → Bool
is_plain ps = length ps == 0

abbrev pub is_success : ℕ × List Property → Bool
is_success x = (x.0 == 0) && is_plain x.1

-- a reason, and then properties; both may be left out from the right where they are 0 and none
unfoldable pub reason : Place → Body (ℕ × List Property)
reason place = or_none (0, []) is_success (then_ (number w8) (λ _. or_none [] is_plain (only (properties place))))

abbrev pub ack_of : ℕ × (ℕ × List Property) → Ack
ack_of x = record { identifier = x.0; reason = x.1.0; properties = x.1.1 }

abbrev pub ack_parts : Ack → ℕ × (ℕ × List Property)
ack_parts a = (a.identifier, (a.reason, a.properties))

abbrev pub is_valid_ack : Ack → Bool
is_valid_ack a = not (a.identifier == 0) && are_valid a.properties

unfoldable pub ack : Place → Body Ack
ack place = valid is_valid_ack ProtocolError (as_ ack_of ack_parts (then_ (number w16) (λ _. reason place)))
