-- DISCONNECT and AUTH (MQTT 5.0, 3.14, 3.15), with their short forms.
use Rattle.std.specs.Prelude.{ℕ, Bool, List}
use Rattle.mqtt_fields.specs.declared.value.Property.{Property}
use Rattle.mqtt_fields.specs.declared.table.Place.{Place}
use Rattle.mqtt_packets.specs.declared.fault.PacketFault.TheVariants.{ProtocolError}
use Rattle.mqtt_packets.specs.declared.ended.Ended.{Ended}
use Rattle.mqtt_packets.specs.Body.{Body, valid, as_}
use Rattle.mqtt_packets.specs.Values.{are_valid}
use Rattle.mqtt_packets.specs.Ack.{reason}

abbrev pub ended_of : ℕ × List Property → Ended
ended_of x = record { reason = x.0; properties = x.1 }

abbrev pub ended_parts : Ended → ℕ × List Property
ended_parts e = (e.reason, e.properties)

abbrev pub is_valid_ended : Ended → Bool
is_valid_ended e = are_valid e.properties

unfoldable pub ended : Place → Body Ended
ended place = valid is_valid_ended ProtocolError (as_ ended_of ended_parts (reason place))
