-- SUBACK and UNSUBACK (MQTT 5.0, 3.9, 3.11): a reason for each filter.
use Rattle.std.specs.Prelude.{ℕ, ◌==◌, not, ◌&&◌, Bool, List, length}
use Rattle.std.specs.Int.{w16}
use Rattle.mqtt_fields.specs.declared.value.Property.{Property}
use Rattle.mqtt_fields.specs.declared.table.Place.{Place}
use Rattle.mqtt_fields.specs.Numbers.{number}
use Rattle.mqtt_fields.specs.Block.{properties}
use Rattle.mqtt_packets.specs.declared.fault.PacketFault.TheVariants.{ProtocolError}
use Rattle.mqtt_packets.specs.declared.reasons.Reasons.{Reasons}
use Rattle.mqtt_packets.specs.Body.{Body, payload, then_, valid, as_}
use Rattle.mqtt_packets.specs.Values.{are_valid}

abbrev pub reasons_of : ℕ × (List Property × List ℕ) → Reasons
reasons_of x = record { identifier = x.0; properties = x.1.0; reasons = x.1.1 }

abbrev pub reasons_parts : Reasons → ℕ × (List Property × List ℕ)
reasons_parts s = (s.identifier, (s.properties, s.reasons))

abbrev pub is_valid_reasons : Reasons → Bool
is_valid_reasons s = (not (s.identifier == 0) && are_valid s.properties) && not (length s.reasons == 0)

unfoldable pub reasons : Place → Body Reasons
reasons place = valid is_valid_reasons ProtocolError (as_ reasons_of reasons_parts (then_ (number w16) (λ _. then_ (properties place) (λ _. payload))))
