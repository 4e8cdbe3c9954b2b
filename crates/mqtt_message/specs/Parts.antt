-- The parts of messages and deliveries, as they are spelled.
use Rattle.std.specs.Prelude.{ℕ, zero, suc, List, Bool, Option, Some, None, Result, Ok, Err, if◌then◌else◌, ◌&&◌, ◌==◌, not, nat_lt, length}
use Rattle.std.specs.Int.{w8, w32, w64}
use Rattle.std.specs.List.{list_any, list_all}
use Rattle.mqtt_fields.specs.declared.fault.FieldFault.{FieldFault}
use Rattle.mqtt_fields.specs.declared.fault.FieldFault.TheVariants.{Malformed}
use Rattle.mqtt_fields.specs.declared.options.Qos.{Qos}
use Rattle.mqtt_fields.specs.declared.options.Qos.TheVariants.{AtMostOnce, AtLeastOnce, ExactlyOnce}
use Rattle.mqtt_fields.specs.declared.table.Place.TheVariants as places
use Rattle.mqtt_fields.specs.declared.value.Property.{Property}
use Rattle.mqtt_fields.specs.Field.{Field, after, tested}
use Rattle.mqtt_fields.specs.Numbers.{number, text, long}
use Rattle.mqtt_fields.specs.Options.{qos_number}
use Rattle.mqtt_fields.specs.Block.{properties}
use Rattle.mqtt_topics.specs.Levels.{is_wildcard}
use Rattle.mqtt_message.specs.declared.field.Tail.{Tail}
use Rattle.mqtt_message.specs.OwnProperties.{is_allowed_own}
use Rattle.mqtt_message.specs.Identifiers.{are_identifiers}
use Rattle.mqtt_message.specs.Spelling.{plain, coded, flag, optional, listed}

-- a string that is a topic name
abbrev pub is_name : List ℕ → Bool
is_name t = not (length t == 0) && not (list_any is_wildcard t)

abbrev pub name_in : List ℕ → Result (List ℕ) FieldFault
name_in t = if is_name t then Ok t else Err Malformed

abbrev pub name : Field (List ℕ)
name = tested is_name Malformed text

-- a payload that a packet has room for (MQTT 5.0, 2.1.4)
abbrev pub is_payload : List ℕ → Bool
is_payload bytes = nat_lt (length bytes) 268435456

abbrev pub payload : Field (List ℕ)
payload = tested is_payload Malformed long

-- a property block of a message's own properties
unfoldable pub own_properties : Field (List Property)
own_properties = tested (list_all is_allowed_own) Malformed (plain (properties places.Publish))

-- a level in a byte
abbrev pub qos_at : ℕ → Option Qos
qos_at zero = Some AtMostOnce
qos_at (suc zero) = Some AtLeastOnce
qos_at (suc (suc zero)) = Some ExactlyOnce
qos_at (suc (suc (suc n))) = None

abbrev pub qos : Field Qos
qos = coded qos_at qos_number (number w8)

-- what follows a message's properties: QoS, RETAIN, the publisher and the deadline
abbrev pub TailParts : Type 0
TailParts = Qos × (Bool × (List ℕ × Option ℕ))

abbrev pub tail_parts : Tail → TailParts
tail_parts t = (t.qos, (t.retain, (t.publisher, t.deadline)))

unfoldable pub tail : Field TailParts
tail = after qos (λ _. after flag (λ _. after text (λ _. optional (number w64))))

-- Subscription Identifiers, each in four bytes
unfoldable pub identifiers : Field (List ℕ)
identifiers = tested are_identifiers Malformed (listed (number w32))
