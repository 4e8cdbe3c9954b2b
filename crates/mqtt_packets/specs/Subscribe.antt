-- SUBSCRIBE (MQTT 5.0, 3.8): filters with their options.
use Rattle.std.specs.Prelude.{ℕ, ◌==◌, not, ◌&&◌, nat_lt, Bool, List, length}
use Rattle.std.specs.List.{list_all}
use Rattle.std.specs.Int.{w8, w16}
use Rattle.mqtt_fields.specs.declared.fault.FieldFault.TheVariants as fields
use Rattle.mqtt_fields.specs.declared.value.Property.{Property}
use Rattle.mqtt_fields.specs.declared.table.Place.TheVariants as places
use Rattle.mqtt_fields.specs.Field.{Field, after, tested, seen}
use Rattle.mqtt_fields.specs.Numbers.{number, text}
use Rattle.mqtt_fields.specs.Options.{qos_of, retain_handling_of}
use Rattle.mqtt_fields.specs.Block.{properties}
use Rattle.mqtt_packets.specs.declared.fault.PacketFault.TheVariants.{ProtocolError}
use Rattle.mqtt_packets.specs.declared.subscribe.SubscribeFilter.{SubscribeFilter}
use Rattle.mqtt_packets.specs.declared.subscribe.Subscribe.{Subscribe}
use Rattle.mqtt_packets.specs.Body.{Body, then_, many, valid, as_}
use Rattle.mqtt_packets.specs.Values.{are_valid}

-- Subscription Options: the two high bits are 0
abbrev pub options : Field ℕ
options = tested (λ n. nat_lt n 64) fields.Malformed (number w8)

abbrev pub filter_of : List ℕ × ℕ → SubscribeFilter
filter_of x = record { filter = x.0; options = x.1 }

abbrev pub filter_parts : SubscribeFilter → List ℕ × ℕ
filter_parts f = (f.filter, f.options)

abbrev pub subscribe_filter : Field SubscribeFilter
subscribe_filter = seen filter_of filter_parts (after text (λ _. options))

abbrev pub subscribe_of : ℕ × (List Property × List SubscribeFilter) → Subscribe
subscribe_of x = record { identifier = x.0; properties = x.1.0; filters = x.1.1 }

abbrev pub subscribe_parts : Subscribe → ℕ × (List Property × List SubscribeFilter)
subscribe_parts s = (s.identifier, (s.properties, s.filters))

-- neither the greatest QoS nor Retain Handling is 3
abbrev pub is_valid_filter : SubscribeFilter → Bool
is_valid_filter f = nat_lt (qos_of f.options) 3 && nat_lt (retain_handling_of f.options) 3

abbrev pub is_valid_subscribe : Subscribe → Bool
is_valid_subscribe s = (not (s.identifier == 0) && are_valid s.properties) && (not (length s.filters == 0) && list_all is_valid_filter s.filters)

unfoldable pub subscribe : Body Subscribe
subscribe = valid is_valid_subscribe ProtocolError (as_ subscribe_of subscribe_parts
    (then_ (number w16) (λ _. then_ (properties places.Subscribe) (λ _. many subscribe_filter))))
