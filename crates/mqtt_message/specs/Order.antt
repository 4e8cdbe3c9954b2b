-- The order of messages: field by field, as they stand in a message's encoding.
use Rattle.std.specs.Prelude.{ℕ, suc, Bool, true, false, List, [], length, Option, Some, None}
use Rattle.std.specs.declared.cmp.Ordering.{Ordering}
use Rattle.std.specs.Ordering.{nat_cmp, then_cmp, on}
use Rattle.std.specs.Cmp.Lexicographic.{slice_cmp}
use Rattle.mqtt_fields.specs.declared.value.Property.{Property}
use Rattle.mqtt_fields.specs.declared.value.Value.{Value}
use Rattle.mqtt_fields.specs.declared.value.Value.TheVariants.{Byte, Two, Four, Vbi, Text, Blob, Pair}
use Rattle.mqtt_fields.specs.Numbers.{vbi}
use Rattle.mqtt_fields.specs.Options.{qos_number}
use Rattle.mqtt_fields.specs.Block.{properties_bytes}
use Rattle.mqtt_message.specs.declared.message.Message.{Message}

-- as bytes with their length before them are spelled: by the length, and then from the first byte that differs
abbrev pub bytes_cmp : List ℕ → List ℕ → Ordering
bytes_cmp = then_cmp (on length nat_cmp) (slice_cmp nat_cmp)

-- the place of a value's type (MQTT 5.0, 1.5)
abbrev pub kind_rank : Value → ℕ
kind_rank (Byte n) = 0
kind_rank (Two n) = 1
kind_rank (Four n) = 2
kind_rank (Vbi n) = 3
kind_rank (Text t) = 4
kind_rank (Blob b) = 5
kind_rank (Pair name t) = 6

-- the integer that a value is, or 0
abbrev pub number_in : Value → ℕ
number_in (Byte n) = n
number_in (Two n) = n
number_in (Four n) = n
number_in (Vbi n) = n
number_in _ = 0

-- the bytes that a value is, or its name, or none
abbrev pub bytes_in : Value → List ℕ
bytes_in (Text t) = t
bytes_in (Blob b) = b
bytes_in (Pair name t) = name
bytes_in _ = []

-- the value after a name, or none
abbrev pub named_in : Value → List ℕ
named_in (Pair name t) = t
named_in _ = []

-- by the type, and then by what the value is
abbrev pub value_cmp : Value → Value → Ordering
value_cmp = then_cmp (on kind_rank nat_cmp) (then_cmp (on number_in nat_cmp) (then_cmp (on bytes_in bytes_cmp) (on named_in bytes_cmp)))

-- by the identifier, and then by the value
abbrev pub property_cmp : Property → Property → Ordering
property_cmp = then_cmp (on (λ p. p.id) nat_cmp) (on (λ p. p.value) value_cmp)

-- from the first property that differs
abbrev pub properties_cmp : List Property → List Property → Ordering
properties_cmp = slice_cmp property_cmp

-- as property blocks are spelled: by the bytes of the Property Length, and then by the properties
abbrev pub block_cmp : List Property → List Property → Ordering
block_cmp = then_cmp (on (λ ps. vbi.bytes (length (properties_bytes ps))) (slice_cmp nat_cmp)) properties_cmp

-- false is below true
abbrev pub flag_rank : Bool → ℕ
flag_rank false = 0
flag_rank true = 1

-- no deadline is below each
abbrev pub deadline_rank : Option ℕ → ℕ
deadline_rank None = 0
deadline_rank (Some deadline) = suc deadline

-- by the topic, payload, properties, QoS, RETAIN, publisher and deadline, in turn
abbrev pub message_cmp : Message → Message → Ordering
message_cmp =
    then_cmp (on (λ m. m.topic) bytes_cmp) (then_cmp (on (λ m. m.payload) bytes_cmp) (then_cmp (on (λ m. m.properties) block_cmp)
    (then_cmp (on (λ m. qos_number m.qos) nat_cmp) (then_cmp (on (λ m. flag_rank m.retain) nat_cmp)
    (then_cmp (on (λ m. m.publisher) bytes_cmp) (on (λ m. deadline_rank m.deadline) nat_cmp))))))
