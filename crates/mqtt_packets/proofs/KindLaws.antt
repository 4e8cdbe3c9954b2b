-- Each kind of packet is read as it is spelled, and written as it is read.
use Rattle.std.proofs.Common.{◌≡◌, ℕ, zero, suc, ◌+◌, ◌*◌, ◌/◌, ◌%◌, ◌<◌, ◌≤◌, Bool, true, false, cond, List, [], ◌∷◌, ◌++◌, length, Result, Ok, Err, refl, sym, ap, subst, ◌∙◌, arith}
use Rattle.std.specs.Prelude.{IsTrue, nat_lt, ◌==◌, not}
use Rattle.std.specs.Int.{w8, w16}
use Rattle.std.proofs.lemmas.Bool.{ltb-true, eqb-true, and_parts}
use Rattle.std.proofs.lemmas.List.{nil_from_length, length-append}
use Rattle.mqtt_fields.specs.declared.fault.FieldFault.TheVariants as fields
use Rattle.mqtt_fields.specs.declared.value.Property.{Property}
use Rattle.mqtt_fields.specs.declared.table.Place.{Place}
use Rattle.mqtt_fields.specs.declared.table.Place.TheVariants as places
use Rattle.mqtt_fields.specs.Numbers.{vbi, groups, number, text}
use Rattle.mqtt_fields.specs.Block.{properties, properties_bytes}
use Rattle.mqtt_fields.proofs.Laws.{IsField, tested_is}
use Rattle.mqtt_fields.proofs.NumberLaws.{wide8, wide16, number_is, text_is}
use Rattle.mqtt_fields.proofs.BlockLaws.{properties_is}
use Rattle.mqtt_packets.specs.declared.fault.PacketFault.TheVariants.{ProtocolError}
use Rattle.mqtt_packets.specs.declared.head.PublishFlags.{PublishFlags}
use Rattle.mqtt_packets.specs.declared.connack.Connack.{Connack}
use Rattle.mqtt_packets.specs.Body.{payload, only, then_, or_none, where_, valid, as_}
use Rattle.mqtt_packets.specs.Head.{is_at_most_once, bit}
use Rattle.mqtt_packets.specs.Ack.{is_plain, is_success, reason, ack_of, ack_parts, is_valid_ack, ack}
use Rattle.mqtt_packets.specs.Ended.{ended_of, ended_parts, is_valid_ended, ended}
use Rattle.mqtt_packets.specs.Connack.{session_flag, connack_of, connack_parts, is_valid_connack, connack}
use Rattle.mqtt_packets.specs.Publish.{publish_of, publish_parts, is_valid_publish, publish}
use Rattle.mqtt_packets.specs.Reasons.{reasons_of, reasons_parts, is_valid_reasons, reasons}
use Rattle.mqtt_packets.specs.Subscribe.{subscribe_filter, subscribe_of, subscribe_parts, is_valid_subscribe, subscribe}
use Rattle.mqtt_packets.specs.Unsubscribe.{unsubscribe_of, unsubscribe_parts, is_valid_unsubscribe, unsubscribe}
use Rattle.mqtt_packets.proofs.BodyLaws.{IsBody, payload_is, only_is, then_is, or_none_is, where_is, valid_is, as_is}
use Rattle.mqtt_packets.proofs.ManyLaws.{many_is}
use Rattle.mqtt_packets.proofs.FilterLaws.{text_long, filter_long}
use Rattle.mqtt_packets.proofs.HeadLaws.{bit_is, bit_small, bit_back}

plain_is : (ps : List Property) → is_plain ps ≡ true → ps ≡ []
plain_is ps e = nil_from_length ps (eqb-true _ _ e)

pair_same : (a b : ℕ) (c d : List Property) → a ≡ b → c ≡ d → ◌≡◌ {A = ℕ × List Property} (a, c) (b, d)
pair_same a b c d p q = let f : ℕ → ℕ × List Property = λ z. (z, c) in let g : List Property → ℕ × List Property = λ z. (b, z) in ap f p ∙ ap g q

success_is : (x : ℕ × List Property) → is_success x ≡ true → x ≡ (0, [])
success_is x e =
    let both = and_parts (x.0 == 0) (is_plain x.1) e in
    let a : x.0 ≡ 0 = eqb-true _ _ both.0 in
    let b : x.1 ≡ [] = plain_is x.1 both.1 in
    pair_same x.0 0 x.1 [] a b

cond_long : (t : Bool) (a b : List ℕ) → 0 < length a → 0 < length b → 0 < length (cond t a b)
cond_long true a b p q = p
cond_long false a b p q = q

groups_long : (k n : ℕ) → 0 < length (groups k n)
groups_long zero n = omega arith
groups_long (suc k) n = cond_long (nat_lt n 128) (n ∷ []) ((n % 128 + 128) ∷ groups k (n / 128)) (omega arith) (omega arith)

-- a block isn't empty
block_long : (place : Place) (ps : List Property) → 0 < length ((properties place).bytes ps)
unfolding properties
block_long place ps =
    let n = length (properties_bytes ps) in
    let long : 0 < length (vbi.bytes n) = groups_long 3 n in
    omega (arith, length-append (vbi.bytes n) (properties_bytes ps))

none_fits : (place : Place) → (properties place).Fits []
unfolding properties
none_fits place = (omega arith, tt)

reason_is : (place : Place) → IsBody (reason place)
unfolding reason
reason_is place = or_none_is (0, []) is_success _
    (then_is (number w8) _ (number_is w8 wide8) (λ _. or_none_is [] is_plain _ (only_is (properties place) (properties_is place)) plain_is refl (none_fits place) (block_long place)))
    success_is refl (omega arith, none_fits place) (λ x. omega arith)

pub ack_is : (place : Place) → IsBody (ack place)
unfolding ack
ack_is place = valid_is is_valid_ack ProtocolError _ (as_is ack_of ack_parts _ (then_is (number w16) _ (number_is w16 wide16) (λ _. reason_is place)) (λ a h. refl))

pub ended_is : (place : Place) → IsBody (ended place)
unfolding ended
ended_is place = valid_is is_valid_ended ProtocolError _ (as_is ended_of ended_parts _ (reason_is place) (λ a h. refl))

session_flag_is : IsField session_flag
session_flag_is = tested_is _ fields.Malformed (number w8) (number_is w8 wide8)

bit_fits : (b : Bool) → session_flag.Fits (bit b)
bit_fits true = (omega arith, refl)
bit_fits false = (omega arith, refl)

connack_back : (x : ℕ × (ℕ × List Property)) → x.0 < 2 → connack_parts (connack_of x) ≡ x
connack_back x lt = let f : ℕ → ℕ × (ℕ × List Property) = λ z. (z, x.1) in ap f (bit_is x.0 lt)

-- a session flag fits, and is its own
pub connack_own : (c : Connack) → (session_flag.Fits (bit c.session_present)) × (connack_of (connack_parts c) ≡ c)
connack_own c =
    let f : Bool → Connack = λ z. record { session_present = z; reason = c.reason; properties = c.properties } in
    (bit_fits c.session_present, ap f (bit_back c.session_present))

pub connack_is : IsBody connack
unfolding connack
connack_is = valid_is is_valid_connack ProtocolError _ (as_is connack_of connack_parts _
    (then_is session_flag _ session_flag_is (λ _. then_is (number w8) _ (number_is w8 wide8) (λ _. only_is (properties places.Connack) (properties_is places.Connack))))
    (λ x h. connack_back x (ltb-true x.0 2 h.0.1)))

pub publish_is : (f : PublishFlags) → IsBody (publish f)
unfolding publish
publish_is f = valid_is is_valid_publish ProtocolError _ (as_is (publish_of f) publish_parts _
    (then_is text _ text_is (λ _. where_is (not (is_at_most_once f.qos)) 0 (number w16) _ (number_is w16 wide16) (then_is (properties places.Publish) _ (properties_is places.Publish) (λ _. payload_is)))) (λ a h. refl))

pub reasons_is : (place : Place) → IsBody (reasons place)
unfolding reasons
reasons_is place = valid_is is_valid_reasons ProtocolError _ (as_is reasons_of reasons_parts _ (then_is (number w16) _ (number_is w16 wide16) (λ _. then_is (properties place) _ (properties_is place) (λ _. payload_is))) (λ a h. refl))

pub subscribe_is : IsBody subscribe
unfolding subscribe
subscribe_is = valid_is is_valid_subscribe ProtocolError _ (as_is subscribe_of subscribe_parts _
    (then_is (number w16) _ (number_is w16 wide16) (λ _. then_is (properties places.Subscribe) _ (properties_is places.Subscribe) (λ _. many_is subscribe_filter filter_long))) (λ a h. refl))

pub unsubscribe_is : IsBody unsubscribe
unfolding unsubscribe
unsubscribe_is = valid_is is_valid_unsubscribe ProtocolError _ (as_is unsubscribe_of unsubscribe_parts _
    (then_is (number w16) _ (number_is w16 wide16) (λ _. then_is (properties places.Unsubscribe) _ (properties_is places.Unsubscribe) (λ _. many_is text text_long))) (λ a h. refl))
