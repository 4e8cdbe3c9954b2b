-- Messages and deliveries are read as they are spelled.
use Rattle.std.proofs.Common.{◌≡◌, ℕ, zero, suc, Some, refl}
use Rattle.std.specs.Int.{w8, w32, w64}
use Rattle.std.specs.List.{list_all}
use Rattle.mqtt_fields.specs.declared.fault.FieldFault.TheVariants.{Malformed}
use Rattle.mqtt_fields.specs.declared.options.Qos.{Qos}
use Rattle.mqtt_fields.specs.declared.options.Qos.TheVariants.{AtMostOnce, AtLeastOnce, ExactlyOnce}
use Rattle.mqtt_fields.specs.declared.table.Place.TheVariants as places
use Rattle.mqtt_fields.specs.Field.{IsField, after}
use Rattle.mqtt_fields.specs.Numbers.{number, text, long}
use Rattle.mqtt_fields.specs.Options.{qos_number}
use Rattle.mqtt_fields.specs.Block.{properties}
use Rattle.mqtt_fields.proofs.Laws.{after_is, tested_is, seen_is}
use Rattle.mqtt_fields.proofs.NumberLaws.{number_is, wide8, wide32, wide64, text_is, long_is}
use Rattle.mqtt_fields.proofs.BlockLaws.{properties_is}
use Rattle.mqtt_message.specs.OwnProperties.{is_allowed_own}
use Rattle.mqtt_message.specs.Identifiers.{are_identifiers}
use Rattle.mqtt_message.specs.Spelling.{plain, flag, optional, listed}
use Rattle.mqtt_message.specs.Parts.{is_name, name, is_payload, payload, own_properties, qos_at, qos, tail, identifiers}
use Rattle.mqtt_message.specs.Spellings.{message_of, message_parts, message, delivery_of, delivery_parts, delivery}
use Rattle.mqtt_message.specs.Laws.{ReadAsSpelled}
use Rattle.mqtt_message.proofs.SpellingLaws.{plain_is, coded_is, flag_is, optional_is, listed_is}

name_is : IsField name
name_is = tested_is is_name Malformed text text_is

payload_is : IsField payload
payload_is = tested_is is_payload Malformed long long_is

own_properties_is : IsField own_properties
unfolding own_properties
own_properties_is = tested_is (list_all is_allowed_own) Malformed (plain (properties places.Publish)) (plain_is (properties places.Publish) (properties_is places.Publish))

qos_back : (n : ℕ) (q : Qos) → qos_at n ≡ Some q → qos_number q ≡ n
qos_back zero AtMostOnce e = refl
qos_back zero AtLeastOnce e = absurd cc
qos_back zero ExactlyOnce e = absurd cc
qos_back (suc zero) AtMostOnce e = absurd cc
qos_back (suc zero) AtLeastOnce e = refl
qos_back (suc zero) ExactlyOnce e = absurd cc
qos_back (suc (suc zero)) AtMostOnce e = absurd cc
qos_back (suc (suc zero)) AtLeastOnce e = absurd cc
qos_back (suc (suc zero)) ExactlyOnce e = refl
qos_back (suc (suc (suc n))) q e = absurd cc

qos_forth : (q : Qos) → qos_at (qos_number q) ≡ Some q
qos_forth AtMostOnce = refl
qos_forth AtLeastOnce = refl
qos_forth ExactlyOnce = refl

qos_is : IsField qos
qos_is = coded_is qos_at qos_number (number w8) qos_back qos_forth (number_is w8 wide8)

tail_is : IsField tail
unfolding tail
tail_is = after_is qos (λ _. after flag (λ _. after text (λ _. optional (number w64)))) qos_is (λ _.
    after_is flag (λ _. after text (λ _. optional (number w64))) flag_is (λ _.
    after_is text (λ _. optional (number w64)) text_is (λ _. optional_is (number w64) (number_is w64 wide64))))

pub message_is : IsField message
unfolding message
message_is = seen_is message_of message_parts (after name (λ _. after payload (λ _. after own_properties (λ _. tail)))) (λ _. refl) (λ _. refl)
    (after_is name (λ _. after payload (λ _. after own_properties (λ _. tail))) name_is (λ _.
    after_is payload (λ _. after own_properties (λ _. tail)) payload_is (λ _.
    after_is own_properties (λ _. tail) own_properties_is (λ _. tail_is))))

identifiers_is : IsField identifiers
unfolding identifiers
identifiers_is = tested_is are_identifiers Malformed (listed (number w32)) (listed_is (number w32) (number_is w32 wide32))

pub delivery_is : IsField delivery
unfolding delivery
delivery_is = seen_is delivery_of delivery_parts (after message (λ _. after qos (λ _. after flag (λ _. identifiers)))) (λ _. refl) (λ _. refl)
    (after_is message (λ _. after qos (λ _. after flag (λ _. identifiers))) message_is (λ _.
    after_is qos (λ _. after flag (λ _. identifiers)) qos_is (λ _.
    after_is flag (λ _. identifiers) flag_is (λ _. identifiers_is))))

pub read_as_spelled : ReadAsSpelled
read_as_spelled = record { messages = message_is; deliveries = delivery_is }
