-- The values that the standard allows, beside what their fields can hold.
use Rattle.std.specs.Prelude.{ℕ, ◌==◌, not, ◌&&◌, ◌||◌, nat_lt, Bool, true, List, length}
use Rattle.std.specs.List.{list_any, list_all}
use Rattle.mqtt_fields.specs.Identifier.{response_topic, subscription_identifier, authentication_method, authentication_data, receive_maximum, maximum_packet_size}
use Rattle.mqtt_fields.specs.declared.value.Property.{Property}
use Rattle.mqtt_fields.specs.declared.value.Value.{Value}
use Rattle.mqtt_fields.specs.declared.value.Value.TheVariants as values

-- neither + nor # stands in the text
abbrev pub has_no_wildcard : List ℕ → Bool
has_no_wildcard text = list_all (λ b. not (b == 43) && not (b == 35)) text

-- A byte property is 0 or 1; Receive Maximum, Maximum Packet Size and Subscription Identifier are not 0; Response Topic
-- has no wildcard (MQTT 5.0, 3.1.2.11, 3.2.2.3, 3.3.2.3).
abbrev pub is_valid_value : ℕ → Value → Bool
is_valid_value id (values.Byte n) = nat_lt n 2
is_valid_value id (values.Two n) = not ((id == receive_maximum) && (n == 0))
is_valid_value id (values.Four n) = not ((id == maximum_packet_size) && (n == 0))
is_valid_value id (values.Vbi n) = not ((id == subscription_identifier) && (n == 0))
is_valid_value id (values.Text t) = not (id == response_topic) || has_no_wildcard t
is_valid_value id _ = true

abbrev pub is_valid_property : Property → Bool
is_valid_property p = is_valid_value p.id p.value

-- a property with this identifier stands there
abbrev pub has : ℕ → List Property → Bool
has id ps = list_any (λ p. p.id == id) ps

-- each has a value that is allowed, and Authentication Data needs an Authentication Method (MQTT 5.0, 3.1.2.11.10)
abbrev pub are_valid : List Property → Bool
are_valid ps = list_all is_valid_property ps && (has authentication_method ps || not (has authentication_data ps))
