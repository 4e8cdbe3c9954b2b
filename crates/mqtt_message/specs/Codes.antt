-- By which a message's values are told apart: numbers, lists and pairs that give them back.
use Rattle.std.specs.Prelude.{◌≡◌, ℕ, zero, suc, ◌==◌, Bool, if◌then◌else◌, List, Option, refl}
use Rattle.std.specs.Coded.{Coded, code_by, coded×, coded_ℕ, coded_bool, coded_list, coded_option}
use Rattle.mqtt_fields.specs.declared.options.Qos.{Qos}
use Rattle.mqtt_fields.specs.declared.options.Qos.TheVariants.{AtMostOnce, AtLeastOnce, ExactlyOnce}
use Rattle.mqtt_fields.specs.declared.value.Property.{Property}
use Rattle.mqtt_fields.specs.declared.value.Value.{Value}
use Rattle.mqtt_fields.specs.declared.value.Value.TheVariants.{Byte, Two, Four, Vbi, Text, Blob, Pair}
use Rattle.mqtt_fields.specs.Options.{qos_number}
use Rattle.mqtt_message.specs.declared.message.Message.{Message}
use Rattle.mqtt_message.specs.Order.{kind_rank, number_in, bytes_in, named_in}

-- a value's parts, and back
abbrev pub ValueParts : Type 0
ValueParts = ℕ × (ℕ × (List ℕ × List ℕ))

abbrev pub value_parts : Value → ValueParts
value_parts v = (kind_rank v, (number_in v, (bytes_in v, named_in v)))

abbrev pub value_of : ValueParts → Value
value_of x =
    if x.0 == 0 then Byte x.1.0 else if x.0 == 1 then Two x.1.0 else if x.0 == 2 then Four x.1.0 else if x.0 == 3 then Vbi x.1.0
    else if x.0 == 4 then Text x.1.1.0 else if x.0 == 5 then Blob x.1.1.0 else Pair x.1.1.0 x.1.1.1

pub value_back : (v : Value) → value_of (value_parts v) ≡ v
value_back (Byte n) = refl
value_back (Two n) = refl
value_back (Four n) = refl
value_back (Vbi n) = refl
value_back (Text t) = refl
value_back (Blob b) = refl
value_back (Pair name t) = refl

-- a level's number, and back
abbrev pub qos_of : ℕ → Qos
qos_of zero = AtMostOnce
qos_of (suc zero) = AtLeastOnce
qos_of (suc (suc n)) = ExactlyOnce

pub qos_back : (q : Qos) → qos_of (qos_number q) ≡ q
qos_back AtMostOnce = refl
qos_back AtLeastOnce = refl
qos_back ExactlyOnce = refl

abbrev pub coded_bytes : Coded (List ℕ)
coded_bytes = coded_list coded_ℕ

abbrev pub coded_value : Coded Value
coded_value = code_by ValueParts (coded× coded_ℕ (coded× coded_ℕ (coded× coded_bytes coded_bytes))) value_parts value_of value_back

abbrev pub coded_property : Coded Property
coded_property = code_by (ℕ × Value) (coded× coded_ℕ coded_value) (λ p. (p.id, p.value)) (λ x. record { id = x.0; value = x.1 }) (λ _. refl)

abbrev pub coded_qos : Coded Qos
coded_qos = code_by ℕ coded_ℕ qos_number qos_of qos_back

abbrev pub coded_message : Coded Message
coded_message =
    code_by (List ℕ × (List ℕ × (List Property × (Qos × (Bool × (List ℕ × Option ℕ))))))
    (coded× coded_bytes (coded× coded_bytes (coded× (coded_list coded_property) (coded× coded_qos (coded× coded_bool (coded× coded_bytes (coded_option coded_ℕ)))))))
    (λ m. (m.topic, (m.payload, (m.properties, (m.qos, (m.retain, (m.publisher, m.deadline)))))))
    (λ x. record { topic = x.0; payload = x.1.0; properties = x.1.1.0; qos = x.1.1.1.0; retain = x.1.1.1.1.0; publisher = x.1.1.1.1.1.0; deadline = x.1.1.1.1.1.1 })
    (λ _. refl)
