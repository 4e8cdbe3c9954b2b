-- The packets by which a server answers have a spelling.
use Rattle.std.proofs.Common.{◌≡◌, ℕ, zero, suc, ◌+◌, ◌/◌, ◌<◌, ◌≤◌, ◌^◌, Bool, true, false, List, [], ◌∷◌, ◌++◌, length, refl, ap, inl, inr, arith}
use Rattle.std.specs.Prelude.{◌≢◌, ◌==◌, ◌&&◌, ◌||◌, not, nat_lt, IsTrue}
use Rattle.std.specs.Int.{w16}
use Rattle.std.specs.List.{list_all}
use Rattle.std.proofs.Math.Dec.{eqb-suc-zero}
use Rattle.std.proofs.lemmas.Bool.{cases_Bool, cases_lt, and_parts}
use Rattle.mqtt_fields.specs.declared.options.Qos.{Qos}
use Rattle.mqtt_fields.specs.declared.options.Qos.TheVariants.{AtMostOnce, AtLeastOnce, ExactlyOnce}
use Rattle.mqtt_fields.specs.declared.value.Property.{Property}
use Rattle.mqtt_fields.specs.declared.value.Value.TheVariants.{Two, Four}
use Rattle.mqtt_fields.specs.declared.table.Place.{Place}
use Rattle.mqtt_fields.specs.declared.table.Place.TheVariants as places
use Rattle.mqtt_fields.specs.Block.{is_multiple, is_new, property, properties}
use Rattle.mqtt_fields.specs.Numbers.{IsText, number, vbi}
use Rattle.mqtt_fields.specs.Table.{entry_of, is_here}
use Rattle.mqtt_fields.proofs.LengthLaws.{vbi_one, vbi_two, vbi_three, vbi_four}
use Rattle.mqtt_packets.specs.declared.ack.Ack.{Ack}
use Rattle.mqtt_packets.specs.declared.packet.Packet.{Packet}
use Rattle.mqtt_packets.specs.declared.packet.Packet.TheVariants as packets
use Rattle.mqtt_packets.specs.declared.publish.Publish.{Publish}
use Rattle.mqtt_packets.specs.declared.subscribe.Subscribe.{Subscribe}
use Rattle.mqtt_packets.specs.declared.unsubscribe.Unsubscribe.{Unsubscribe}
use Rattle.mqtt_packets.specs.Ack.{ack as ack_body, reason}
use Rattle.mqtt_packets.specs.Body.{then_, where_, payload}
use Rattle.mqtt_packets.specs.Connack.{connack as connack_body}
use Rattle.mqtt_packets.specs.Head.{bit, is_head, is_at_most_once}
use Rattle.mqtt_packets.specs.Packet.{head_of, body_bytes, BodyFits}
use Rattle.mqtt_packets.specs.Publish.{publish}
use Rattle.mqtt_packets.specs.Reasons.{reasons}
use Rattle.mqtt_packets.specs.Subscribe.{subscribe, is_valid_filter}
use Rattle.mqtt_packets.specs.Unsubscribe.{unsubscribe}
use Rattle.mqtt_packets.specs.Values.{are_valid, has}
use Rattle.mqtt_packets.specs.Written.{HasSpelling, written}
use Rattle.mqtt_packets.proofs.WrittenLaws.{sound_of, spelling_of}
use Rattle.mqtt_sessions.specs.Answers.{ack, puback, pubrec, pubrel, pubcomp, suback, unsuback, assigned, connack}
use Rattle.mqtt_sessions.specs.Lengths.{ack_length, assigned_length}
use Rattle.mqtt_sessions.proofs.LengthLaws.{written_length, puback_length, pubrec_length, pubrel_length, pubcomp_length, pingresp_length, assigned_bytes, connack_bytes}

-- a packet within the longest there is
abbrev pub IsShort : Packet → Type 0
IsShort p = length (written p) ≤ 268435460

abbrev pub IsIdentifier : ℕ → Type 0
IsIdentifier id = (1 ≤ id) × (id ≤ 65535)

-- ---- lengths
vbi_at_most_four : (n : ℕ) → length (vbi.bytes n) ≤ 4
vbi_at_most_four n =
    elim (cases_lt n 128) [
      | inl a ↦ omega (arith, vbi_one n a)
      | inr a ↦ elim (cases_lt (n / 128) 128) [
        | inl b ↦ omega (arith, vbi_two n a b)
        | inr b ↦ elim (cases_lt (n / 128 / 128) 128) [
          | inl c ↦ omega (arith, vbi_three n a b c)
          | inr c ↦ omega (arith, vbi_four n a b c)
        ]
      ]
    ]

body_short : (p : Packet) → IsShort p → length (body_bytes p) < 2 ^ 28
body_short p short =
    elim (cases_lt (length (body_bytes p)) 268435456) [
      | inl less ↦ less
      | inr more ↦ absurd (omega (arith, written_length p, short, more, vbi_four (length (body_bytes p)) (let a : 128 ≤ length (body_bytes p) = omega (arith, more) in a) (let b : 128 ≤ length (body_bytes p) / 128 = omega (arith, more) in b) (let c : 128 ≤ length (body_bytes p) / 128 / 128 = omega (arith, more) in c)))
    ]

sound : (p : Packet) → IsTrue (is_head (head_of p)) → BodyFits p → IsShort p → HasSpelling p
sound p begins fits short = spelling_of p record { begins = begins; fits = fits; short = body_short p short }

-- ---- numbers
not_zero : (n : ℕ) → not (n == 0) ≡ true → 1 ≤ n
not_zero zero e = cc
not_zero (suc n) e = omega arith

zero_not : (n : ℕ) → 1 ≤ n → not (n == 0) ≡ true
zero_not zero less = absurd (omega arith)
zero_not (suc n) less = rw (eqb-suc-zero n) refl

small : 0 < 2 ^ 28
small = omega arith

-- ---- acknowledgements
ack_short : (p : Packet) (code : ℕ) → length (written p) ≡ ack_length code → IsShort p
ack_short p code e = elim (cases_Bool (code == 0)) [
  | inl z ↦ (let f : length (written p) ≡ 4 = (rw z at e) in omega (arith, f))
  | inr z ↦ (let f : length (written p) ≡ 5 = (rw z at e) in omega (arith, f))
]

ack_fits : (place : Place) (id code : ℕ) → IsIdentifier id → code < 256 → (ack_body place).Fits (ack id code)
unfolding ack_body reason properties
ack_fits place id code is below = (((omega (arith, is.1), (below, (small, tt))), refl), rw (zero_not id is.0) refl)

pub puback_spelled : (id code : ℕ) → IsIdentifier id → code < 256 → HasSpelling (puback id code)
unfolding head_of BodyFits
puback_spelled id code is below = sound (puback id code) refl (ack_fits places.Puback id code is below) (ack_short (puback id code) code (puback_length id code))

pub pubrec_spelled : (id code : ℕ) → IsIdentifier id → code < 256 → HasSpelling (pubrec id code)
unfolding head_of BodyFits
pubrec_spelled id code is below = sound (pubrec id code) refl (ack_fits places.Pubrec id code is below) (ack_short (pubrec id code) code (pubrec_length id code))

pub pubrel_spelled : (id code : ℕ) → IsIdentifier id → code < 256 → HasSpelling (pubrel id code)
unfolding head_of BodyFits
pubrel_spelled id code is below = sound (pubrel id code) refl (ack_fits places.Pubrel id code is below) (ack_short (pubrel id code) code (pubrel_length id code))

pub pubcomp_spelled : (id code : ℕ) → IsIdentifier id → code < 256 → HasSpelling (pubcomp id code)
unfolding head_of BodyFits
pubcomp_spelled id code is below = sound (pubcomp id code) refl (ack_fits places.Pubcomp id code is below) (ack_short (pubcomp id code) code (pubcomp_length id code))

pub pingresp_spelled : HasSpelling packets.Pingresp
unfolding head_of BodyFits
pingresp_spelled = sound packets.Pingresp refl tt (omega (arith, pingresp_length))

-- ---- lists of codes
pub some_codes : (codes : List ℕ) → codes ≢ [] → not (length codes == 0) ≡ true
some_codes [] some = absurd (some refl)
some_codes (c ∷ cs) some = zero_not (length (c ∷ cs)) (omega arith)

pub suback_spelled : (id : ℕ) (codes : List ℕ) → IsIdentifier id → not (length codes == 0) ≡ true → IsShort (suback id codes) → HasSpelling (suback id codes)
unfolding head_of BodyFits reasons properties
suback_spelled id codes is some short = sound (suback id codes) refl ((((omega (arith, is.1)), ((small, tt), tt)), refl), rw (zero_not id is.0, some) refl) short

pub unsuback_spelled : (id : ℕ) (codes : List ℕ) → IsIdentifier id → not (length codes == 0) ≡ true → IsShort (unsuback id codes) → HasSpelling (unsuback id codes)
unfolding head_of BodyFits reasons properties
unsuback_spelled id codes is some short = sound (unsuback id codes) refl ((((omega (arith, is.1)), ((small, tt), tt)), refl), rw (zero_not id is.0, some) refl) short

-- ---- CONNACK
abbrev connack_properties : List ℕ → List ℕ → List Property
connack_properties given client = assigned given client ++ record { id = 33; value = Two 100 } ∷ record { id = 34; value = Two 16 } ∷ record { id = 39; value = Four 1048576 } ∷ []

flag_fits : (b : Bool) → (bit b < 256) × IsTrue (nat_lt (bit b) 2)
flag_fits true = (omega arith, refl)
flag_fits false = (omega arith, refl)

flag_is : (b : Bool) → (bit b == 1) ≡ b
flag_is true = refl
flag_is false = refl

assigned_short : (given client : List ℕ) → IsText client → assigned_length given client < 65539
assigned_short [] client is = omega (arith, is.0)
assigned_short (b ∷ bs) client is = omega arith

block_fits : (given client : List ℕ) → IsText client → (properties places.Connack).Fits (connack_properties given client)
unfolding properties property entry_of is_here is_new is_multiple
block_fits [] client is =
    (omega (arith, assigned_bytes [] client, is.0), (((((omega arith, refl), refl), refl), is), (((((omega arith, refl), refl), refl), omega arith), (((((omega arith, refl), refl), refl), omega arith), (((((omega arith, refl), refl), refl), omega arith), tt)))))
block_fits (b ∷ bs) client is = (omega arith, (((((omega arith, refl), refl), refl), omega arith), (((((omega arith, refl), refl), refl), omega arith), (((((omega arith, refl), refl), refl), omega arith), tt))))

block_valid : (given client : List ℕ) → are_valid (connack_properties given client) ≡ true
block_valid [] client = refl
block_valid (b ∷ bs) client = refl

connack_fits : (present : Bool) (given client : List ℕ) → IsText client → BodyFits (connack present given client)
unfolding BodyFits connack_body
connack_fits present given client is = (((flag_fits present, (omega arith, block_fits given client is)), ap (λ (b : Bool). record { session_present = b; reason = 0; properties = connack_properties given client }) (flag_is present)), block_valid given client)

connack_short : (present : Bool) (given client : List ℕ) → IsText client → IsShort (connack present given client)
connack_short present given client is = omega (arith, written_length (connack present given client), connack_bytes present given client, assigned_short given client is, vbi_at_most_four (11 + assigned_length given client), vbi_at_most_four (length (body_bytes (connack present given client))))

pub connack_spelled : (present : Bool) (given client : List ℕ) → IsText client → HasSpelling (connack present given client)
unfolding head_of
connack_spelled present given client is = sound (connack present given client) refl (connack_fits present given client is) (connack_short present given client is)

-- ---- identifiers of packets that came
ack_identified : (place : Place) (a : Ack) → (ack_body place).Fits a → IsIdentifier a.identifier
unfolding ack_body
ack_identified place a fits = (not_zero a.identifier (and_parts (not (a.identifier == 0)) (are_valid a.properties) fits.1).0, omega (arith, fits.0.0.0))

pub puback_identified : (a : Ack) → HasSpelling (packets.Puback a) → IsIdentifier a.identifier
unfolding BodyFits
puback_identified a h = ack_identified places.Puback a (sound_of (packets.Puback a) h).fits

pub pubrec_identified : (a : Ack) → HasSpelling (packets.Pubrec a) → IsIdentifier a.identifier
unfolding BodyFits
pubrec_identified a h = ack_identified places.Pubrec a (sound_of (packets.Pubrec a) h).fits

pub pubrel_identified : (a : Ack) → HasSpelling (packets.Pubrel a) → IsIdentifier a.identifier
unfolding BodyFits
pubrel_identified a h = ack_identified places.Pubrel a (sound_of (packets.Pubrel a) h).fits

-- at QoS 1 and 2
abbrev pub IsAnswered : Qos → ℕ → Type 0
IsAnswered AtMostOnce id = Unit {0}
IsAnswered AtLeastOnce id = IsIdentifier id
IsAnswered ExactlyOnce id = IsIdentifier id

abbrev Tail : Qos → ℕ → List Property → List ℕ → Type 0
Tail q id ps bytes = (where_ (not (is_at_most_once q)) 0 (number w16) (then_ (properties places.Publish) (λ _. payload))).Fits (id, (ps, bytes))

tail_identified : (q : Qos) (id : ℕ) (ps : List Property) (bytes : List ℕ) → Tail q id ps bytes → (is_at_most_once q || not (id == 0)) ≡ true → IsAnswered q id
tail_identified AtMostOnce id ps bytes fits valid = tt
tail_identified AtLeastOnce id ps bytes fits valid = (not_zero id valid, omega (arith, fits.0))
tail_identified ExactlyOnce id ps bytes fits valid = (not_zero id valid, omega (arith, fits.0))

pub publish_identified : (p : Publish) → HasSpelling (packets.Publish p) → IsAnswered p.qos p.identifier
unfolding BodyFits publish
publish_identified p h =
    let s = sound_of (packets.Publish p) h in
    let valid = and_parts (is_at_most_once p.qos || not (p.identifier == 0)) (are_valid p.properties && (not (length p.topic == 0) || has 35 p.properties)) s.fits.1 in
    tail_identified p.qos p.identifier p.properties p.payload s.fits.0.0.1 valid.0

-- and those with filters, of which there is one at least
pub subscribe_asks : (p : Subscribe) → HasSpelling (packets.Subscribe p) → IsIdentifier p.identifier × (not (length p.filters == 0) ≡ true)
unfolding BodyFits subscribe
subscribe_asks p h =
    let s = sound_of (packets.Subscribe p) h in
    let parts = and_parts (not (p.identifier == 0) && are_valid p.properties) (not (length p.filters == 0) && list_all is_valid_filter p.filters) s.fits.1 in
    ((not_zero p.identifier (and_parts (not (p.identifier == 0)) (are_valid p.properties) parts.0).0, omega (arith, s.fits.0.0.0)), (and_parts (not (length p.filters == 0)) (list_all is_valid_filter p.filters) parts.1).0)

pub unsubscribe_asks : (p : Unsubscribe) → HasSpelling (packets.Unsubscribe p) → IsIdentifier p.identifier × (not (length p.filters == 0) ≡ true)
unfolding BodyFits unsubscribe
unsubscribe_asks p h =
    let s = sound_of (packets.Unsubscribe p) h in
    let parts = and_parts (not (p.identifier == 0) && are_valid p.properties) (not (length p.filters == 0)) s.fits.1 in
    ((not_zero p.identifier (and_parts (not (p.identifier == 0)) (are_valid p.properties) parts.0).0, omega (arith, s.fits.0.0.0)), parts.1)
