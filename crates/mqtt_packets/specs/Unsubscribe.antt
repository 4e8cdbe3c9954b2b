-- UNSUBSCRIBE (MQTT 5.0, 3.10): filters.
use Rattle.std.specs.Prelude.{ℕ, ◌==◌, not, ◌&&◌, Bool, List, length}
use Rattle.std.specs.Int.{w16}
use Rattle.mqtt_fields.specs.declared.value.Property.{Property}
use Rattle.mqtt_fields.specs.declared.table.Place.TheVariants as places
use Rattle.mqtt_fields.specs.Numbers.{number, text}
use Rattle.mqtt_fields.specs.Block.{properties}
use Rattle.mqtt_packets.specs.declared.fault.PacketFault.TheVariants.{ProtocolError}
use Rattle.mqtt_packets.specs.declared.unsubscribe.Unsubscribe.{Unsubscribe}
use Rattle.mqtt_packets.specs.Body.{Body, then_, many, valid, as_}
use Rattle.mqtt_packets.specs.Values.{are_valid}

abbrev pub unsubscribe_of : ℕ × (List Property × List (List ℕ)) → Unsubscribe
unsubscribe_of x = record { identifier = x.0; properties = x.1.0; filters = x.1.1 }

abbrev pub unsubscribe_parts : Unsubscribe → ℕ × (List Property × List (List ℕ))
unsubscribe_parts s = (s.identifier, (s.properties, s.filters))

abbrev pub is_valid_unsubscribe : Unsubscribe → Bool
is_valid_unsubscribe s = (not (s.identifier == 0) && are_valid s.properties) && not (length s.filters == 0)

unfoldable pub unsubscribe : Body Unsubscribe
unsubscribe = valid is_valid_unsubscribe ProtocolError (as_ unsubscribe_of unsubscribe_parts
    (then_ (number w16) (λ _. then_ (properties places.Unsubscribe) (λ _. many text))))
