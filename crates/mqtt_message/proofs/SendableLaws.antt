-- When the PUBLISH that sends a delivery has a spelling.
use Rattle.std.proofs.Common.{◌≡◌, ℕ, zero, suc, ◌+◌, ◌-◌, ◌/◌, ◌<◌, ◌≤◌, ◌^◌, Bool, true, false, ◌&&◌, ◌||◌, List, [], ◌∷◌, ◌++◌, length, Option, Some, None, refl, sym, subst, ◌∙◌, inl, inr, append_assoc, append-nil, arith}
use Rattle.std.specs.Prelude.{IsTrue, not, ◌==◌, nat_lt, nat_le, map, min}
use Rattle.std.specs.Int.{w16}
use Rattle.std.specs.List.{list_any, list_all}
use Rattle.std.proofs.Math.Dec.{eqb-suc-zero}
use Rattle.std.proofs.lemmas.Bool.{cases_lt, cases_Bool, and_parts, ltb-true, leb-true}
use Rattle.std.proofs.lemmas.List.Folds.{list_all-append, list_any-append}
use Rattle.mqtt_fields.specs.declared.options.Qos.{Qos}
use Rattle.mqtt_fields.specs.declared.options.Qos.TheVariants.{AtMostOnce, AtLeastOnce, ExactlyOnce}
use Rattle.mqtt_fields.specs.declared.value.Property.{Property}
use Rattle.mqtt_fields.specs.declared.value.Value.TheVariants as values
use Rattle.mqtt_fields.specs.declared.table.Place.TheVariants as places
use Rattle.mqtt_fields.specs.Numbers.{number, vbi, text}
use Rattle.mqtt_fields.specs.Table.{entry_of, is_here}
use Rattle.mqtt_fields.specs.Block.{is_multiple, is_new, property, MayStand, properties_bytes, properties}
use Rattle.mqtt_fields.proofs.LengthLaws.{vbi_one, vbi_two, vbi_three, vbi_four, stand_snoc}
use Rattle.mqtt_packets.specs.declared.publish.Publish.{Publish}
use Rattle.mqtt_packets.specs.declared.packet.Packet.TheVariants as packets
use Rattle.mqtt_packets.specs.Head.{is_at_most_once}
use Rattle.mqtt_packets.specs.Values.{is_valid_property, has, are_valid}
use Rattle.mqtt_packets.specs.Body.{payload, then_, where_}
use Rattle.mqtt_packets.specs.Publish.{publish, is_valid_publish}
use Rattle.mqtt_packets.specs.Packet.{head_of, body_bytes, BodyFits}
use Rattle.mqtt_packets.specs.Written.{written, IsSound}
use Rattle.mqtt_packets.proofs.WrittenLaws.{sound_of, spelling_of}
use Rattle.mqtt_message.specs.declared.delivery.Delivery.{Delivery}
use Rattle.mqtt_topics.specs.Levels.{is_wildcard}
use Rattle.mqtt_message.specs.OwnProperties.{is_own_id, is_allowed_own}
use Rattle.mqtt_message.specs.Expiry.{interval_left}
use Rattle.mqtt_message.specs.Identifiers.{ascends_from}
use Rattle.mqtt_message.specs.Parts.{own_properties, identifiers}
use Rattle.mqtt_message.specs.Spellings.{message, delivery}
use Rattle.mqtt_message.specs.Sent.{interval_property, identifier_property, sent_properties, sent, IsIdentifierAt, IsDupAt, IsSendable}
use Rattle.mqtt_message.specs.Laws.{SentIsSpelled}
use Rattle.mqtt_message.proofs.OwnLaws.{own_cases}
use Rattle.mqtt_message.proofs.SentLaws.{body_len, written_len}

-- ---- lengths

-- a packet's whole length, by its body's
abbrev whole : ℕ → ℕ
whole n = 1 + length (vbi.bytes n) + n

vbi_at_most_four : (n : ℕ) → length (vbi.bytes n) ≤ 4
vbi_at_most_four n =
    elim (cases_lt n 128) [
      | inl a ↦ omega (arith, vbi_one n a)
      | inr a ↦ elim (cases_lt (n / 128) 128) [
        | inl b ↦ omega (arith, vbi_two n a b)
        | inr b ↦ elim (cases_lt (n / 128 / 128) 128) [
          | inl c ↦ omega (arith, vbi_three n a b c)
          | inr c ↦ omega (arith, vbi_four n a b c)
        ]
      ]
    ]

whole_short : (n : ℕ) → n < 2 ^ 28 → whole n ≤ 268435460
whole_short n short = omega (arith, vbi_at_most_four n)

body_short : (n : ℕ) → whole n ≤ 268435460 → n < 2 ^ 28
body_short n short =
    elim (cases_lt n 268435456) [
      | inl less ↦ less
      | inr more ↦ absurd (omega (arith, vbi_four n (let a : 128 ≤ n = omega arith in a) (let b : 128 ≤ n / 128 = omega arith in b) (let c : 128 ≤ n / 128 / 128 = omega arith in c)))
    ]

-- ---- what a spelling asks of the flags and the identifier

-- a number that isn't 0
not_zero : (n : ℕ) → not (n == 0) ≡ true → 0 < n
not_zero zero e = cc
not_zero (suc n) e = omega arith

zero_not : (n : ℕ) → 0 < n → not (n == 0) ≡ true
zero_not zero less = absurd (omega arith)
zero_not (suc n) less = rw (eqb-suc-zero n) refl

abbrev Tail : Qos → ℕ → List Property → List ℕ → Type 0
Tail q identifier ps bytes = (where_ (not (is_at_most_once q)) 0 (number w16) (then_ (properties places.Publish) (λ _. payload))).Fits (identifier, (ps, bytes))

tail_identified : (q : Qos) (identifier : ℕ) (ps : List Property) (bytes : List ℕ) → Tail q identifier ps bytes → (is_at_most_once q || not (identifier == 0)) ≡ true → IsIdentifierAt q identifier
tail_identified AtMostOnce identifier ps bytes fits valid = fits.0
tail_identified AtLeastOnce identifier ps bytes fits valid = (not_zero identifier valid, omega (arith, fits.0))
tail_identified ExactlyOnce identifier ps bytes fits valid = (not_zero identifier valid, omega (arith, fits.0))

tail_fits : (q : Qos) (identifier : ℕ) (ps : List Property) (bytes : List ℕ) → IsIdentifierAt q identifier → (properties places.Publish).Fits ps → Tail q identifier ps bytes
tail_fits AtMostOnce identifier ps bytes identified fits = (identified, (fits, tt))
tail_fits AtLeastOnce identifier ps bytes identified fits = (omega (arith, identified.1), (fits, tt))
tail_fits ExactlyOnce identifier ps bytes identified fits = (omega (arith, identified.1), (fits, tt))

identifier_valid : (q : Qos) (identifier : ℕ) → IsIdentifierAt q identifier → (is_at_most_once q || not (identifier == 0)) ≡ true
identifier_valid AtMostOnce identifier identified = refl
identifier_valid AtLeastOnce identifier identified = zero_not identifier identified.0
identifier_valid ExactlyOnce identifier identified = zero_not identifier identified.0

dup_allowed : (q : Qos) (dup : Bool) → not (dup && is_at_most_once q) ≡ true → IsDupAt q dup
dup_allowed AtMostOnce true e = cc
dup_allowed AtMostOnce false e = refl
dup_allowed AtLeastOnce dup e = tt
dup_allowed ExactlyOnce dup e = tt

allowed_dup : (q : Qos) (dup : Bool) → IsDupAt q dup → not (dup && is_at_most_once q) ≡ true
allowed_dup AtMostOnce dup e = rw e refl
allowed_dup AtLeastOnce true e = refl
allowed_dup AtLeastOnce false e = refl
allowed_dup ExactlyOnce true e = refl
allowed_dup ExactlyOnce false e = refl

-- ---- the properties that are sent

-- Properties that a PUBLISH may have, whatever the whole length, among which none has the identifier 22.
record Stand (ps : List Property) : Type 0 where
  stand : MayStand places.Publish [] ps
  each : list_all is_valid_property ps ≡ true
  none : has 22 ps ≡ false

one_more : (ps : List Property) (p : Property) → Stand ps → (property places.Publish ps).Fits p → is_valid_property p ≡ true → (p.id == 22) ≡ false → Stand (ps ++ p ∷ [])
one_more ps p before fits valid other = record {
  stand = stand_snoc places.Publish [] ps p before.stand fits;
  each = list_all-append is_valid_property ps (p ∷ []) ∙ rw (before.each, valid) refl;
  none = list_any-append (λ q. q.id == 22) ps (p ∷ []) ∙ rw (before.none, other) refl;
}

-- an identifier of a message's own properties is another than these
own_other : (id : ℕ) → IsTrue (is_own_id id) → ((id == 2) ≡ false) × ((id == 22) ≡ false)
own_other id mine = let P : ℕ → Type 0 = λ k. ((k == 2) ≡ false) × ((k == 22) ≡ false) in own_cases P id mine (refl, refl) (refl, refl) (refl, refl) (refl, refl) (refl, refl)

record Own (ps : List Property) : Type 0 where
  each : list_all is_valid_property ps ≡ true
  no_interval : has 2 ps ≡ false
  no_data : has 22 ps ≡ false

all_own : (ps : List Property) → list_all is_allowed_own ps ≡ true → Own ps
all_own [] all = record { each = refl; no_interval = refl; no_data = refl }
all_own (p ∷ ps) all =
    let parts = and_parts (is_allowed_own p) (list_all is_allowed_own ps) all in
    let mine = and_parts (is_own_id p.id) (is_valid_property p) parts.0 in
    let other = own_other p.id mine.0 in
    let rest = all_own ps parts.1 in
    record { each = rw (mine.1, rest.each) refl; no_interval = rw (other.0, rest.no_interval) refl; no_data = rw (other.1, rest.no_data) refl }

interval_small : (now : ℕ) (deadline : Option ℕ) (seconds : ℕ) → interval_left now deadline ≡ Some seconds → seconds < 2 ^ 32
interval_small now None seconds e = cc
interval_small now (Some deadline) seconds e =
    elim (cases_Bool (nat_le deadline now)) [
      | inl passed ↦ let same : Some 0 ≡ Some seconds = (rw passed at e) in (let is : 0 ≡ seconds = cc in omega arith)
      | inr ahead ↦ let same : Some (min 4294967295 ((deadline - now + 999) / 1000)) ≡ Some seconds = (rw ahead at e) in (let is : min 4294967295 ((deadline - now + 999) / 1000) ≡ seconds = cc in omega arith)
    ]

with_interval : (ps : List Property) (left : Option ℕ) → Stand ps → has 2 ps ≡ false → ((seconds : ℕ) → left ≡ Some seconds → seconds < 2 ^ 32) → Stand (ps ++ interval_property left)
unfolding property entry_of is_here is_new is_multiple
with_interval ps None before none small = subst Stand (sym (append-nil ps)) before
with_interval ps (Some seconds) before none small =
    one_more ps (record { id = 2; value = values.Four seconds }) before
    ((((omega arith, refl), refl), rw none refl), omega (arith, small seconds refl)) refl refl

with_identifiers : (least : ℕ) (ns : List ℕ) (ps : List Property) → 0 < least → IsTrue (ascends_from least ns) → Stand ps → Stand (ps ++ map identifier_property ns)
unfolding property entry_of is_here is_new is_multiple
with_identifiers least [] ps some ascending before = subst Stand (sym (append-nil ps)) before
with_identifiers least (n ∷ rest) ps some ascending before =
    let parts = and_parts (nat_le least n) (nat_lt n 268435456 && ascends_from n rest) ascending in
    let later = and_parts (nat_lt n 268435456) (ascends_from n rest) parts.1 in
    let above : least ≤ n = leb-true least n parts.0 in
    let first = one_more ps (identifier_property n) before
    ((((omega arith, refl), refl), refl), omega (arith, ltb-true n 268435456 later.0)) (zero_not n (omega arith)) refl in
    subst Stand (append_assoc ps (identifier_property n ∷ []) (map identifier_property rest))
    (with_identifiers n rest (ps ++ identifier_property n ∷ []) (omega arith) later.1 first)

-- ---- the law

-- what a delivery's spelling says of the PUBLISH that sends it
record Carries (d : Delivery) (now : ℕ) : Type 0 where
  topic : text.Fits d.message.topic
  some : not (length d.message.topic == 0) ≡ true
  stand : Stand (sent_properties d now)

carries : (d : Delivery) (now : ℕ) → delivery.Fits d → Carries d now
unfolding delivery message own_properties identifiers properties
carries d now fits =
    let ps = d.message.properties in
    let own = all_own ps fits.0.1.1.0.1 in
    let before : Stand ps = record { stand = fits.0.1.1.0.0.1; each = own.each; none = own.no_data } in
    let dated = with_interval ps (interval_left now d.message.deadline) before own.no_interval (interval_small now d.message.deadline) in
    record {
      topic = fits.0.0.0;
      some = (and_parts (not (length d.message.topic == 0)) (not (list_any is_wildcard d.message.topic)) fits.0.0.1).0;
      stand = with_identifiers 1 d.identifiers (ps ++ interval_property (interval_left now d.message.deadline)) (omega arith) fits.1.1.1.1 dated;
    }

block_shorter : (p : Publish) → length (properties_bytes p.properties) ≤ length (body_bytes (packets.Publish p))
block_shorter p = omega (arith, body_len p)

spelled : (p : Publish) → text.Fits p.topic → not (length p.topic == 0) ≡ true → Stand p.properties → IsIdentifierAt p.qos p.identifier → IsDupAt p.qos p.dup → length (body_bytes (packets.Publish p)) < 2 ^ 28 → IsSound (packets.Publish p)
unfolding head_of BodyFits publish properties
spelled p topic some stand identified again short = record {
  begins = allowed_dup p.qos p.dup again;
  fits = (((topic, tail_fits p.qos p.identifier p.properties p.payload identified (omega (arith, block_shorter p, short), stand.stand)), refl), valid);
  short = short;
}
  where
    valid : is_valid_publish p ≡ true
    valid = rw (identifier_valid p.qos p.identifier identified, stand.each, stand.none, some) (always (has 21 p.properties))
      where
        always : (b : Bool) → ((b || true) && true) ≡ true
        always true = refl
        always false = refl

sendable : (p : Publish) → IsSound (packets.Publish p) → IsSendable p.qos p.dup p.identifier (length (written (packets.Publish p)))
unfolding head_of BodyFits publish
sendable p s =
    let valid = and_parts (is_at_most_once p.qos || not (p.identifier == 0)) (are_valid p.properties && (not (length p.topic == 0) || has 35 p.properties)) s.fits.1 in
    record {
      identified = tail_identified p.qos p.identifier p.properties p.payload s.fits.0.0.1 valid.0;
      again = dup_allowed p.qos p.dup s.begins;
      short = (let e = written_len p (length (body_bytes (packets.Publish p))) refl in omega (arith, e, whole_short (length (body_bytes (packets.Publish p))) s.short));
    }

pub sent_is_spelled : SentIsSpelled
sent_is_spelled d now n dup identifier fits len =
    let p = sent d now dup identifier in
    let Sendable : ℕ → Type 0 = λ k. IsSendable d.qos dup identifier k in
    let parts = carries d now fits in
    let length_is : n ≡ whole (length (body_bytes (packets.Publish p))) = len dup identifier ∙ written_len p (length (body_bytes (packets.Publish p))) refl in (
      λ h. subst Sendable (sym (len dup identifier)) (sendable p (sound_of (packets.Publish p) h)),
      λ s. spelling_of (packets.Publish p) (spelled p parts.topic parts.some parts.stand s.identified s.again
          (body_short (length (body_bytes (packets.Publish p))) (omega (arith, length_is, s.short)))),
    )
