-- How long the answers are.
use Rattle.std.proofs.Common.{◌≡◌, ℕ, ◌+◌, ◌<◌, ◌≤◌, Bool, true, false, cond, List, [], ◌∷◌, ◌++◌, length, refl, ap, arith, inl, inr, length-append}
use Rattle.std.specs.Prelude.{◌==◌, nat_le, nat_lt}
use Rattle.std.specs.Int.{w16}
use Rattle.std.proofs.lemmas.Bool.{cases_Bool, cases_lt, leb-true, eqb-true, lt-ltb, le-ltb}
use Rattle.mqtt_fields.specs.Numbers.{number, text, vbi}
use Rattle.mqtt_fields.specs.Block.{properties, properties_bytes}
use Rattle.mqtt_fields.specs.declared.value.Value.TheVariants.{Two, Four}
use Rattle.mqtt_fields.specs.declared.table.Place.{Place}
use Rattle.mqtt_fields.specs.declared.table.Place.TheVariants as places
use Rattle.mqtt_fields.proofs.LengthLaws.{vbi_one}
use Rattle.mqtt_packets.specs.declared.packet.Packet.{Packet}
use Rattle.mqtt_packets.specs.declared.packet.Packet.TheVariants as packets
use Rattle.mqtt_packets.specs.Ack.{ack as ack_body, reason}
use Rattle.mqtt_packets.specs.Connack.{connack as connack_body}
use Rattle.mqtt_packets.specs.Ended.{ended}
use Rattle.mqtt_packets.specs.Reasons.{reasons}
use Rattle.mqtt_packets.specs.Head.{first_byte}
use Rattle.mqtt_packets.specs.Packet.{body_bytes, head_of}
use Rattle.mqtt_packets.specs.Written.{written}
use Rattle.mqtt_sessions.specs.Answers.{ack, puback, pubrec, pubrel, pubcomp, suback, unsuback, disconnect, connack, assigned, fits}
use Rattle.mqtt_sessions.specs.Lengths.{ack_length, list_length, assigned_length}

-- a first byte, Remaining Length, and a body
pub written_length : (p : Packet) → length (written p) ≡ 1 + length (vbi.bytes (length (body_bytes p))) + length (body_bytes p)
unfolding written
written_length p = omega (arith, length-append (first_byte (head_of p) ∷ vbi.bytes (length (body_bytes p))) (body_bytes p))

short_length : (p : Packet) (n : ℕ) → length (body_bytes p) ≡ n → n < 128 → length (written p) ≡ n + 2
short_length p n e lt = omega (arith, written_length p, vbi_one (length (body_bytes p)) (omega (arith, e, lt)), e)

two : (n : ℕ) → length ((number w16).bytes n) ≡ 2
two n = refl

ack_bytes : (place : Place) (id code : ℕ) → length ((ack_body place).bytes (ack id code)) ≡ cond (code == 0) 2 3
unfolding ack_body reason
ack_bytes place id code = elim (cases_Bool (code == 0)) [
  | inl z ↦ rw z refl
  | inr z ↦ rw z refl
]

by_code : (p : Packet) (code : ℕ) → length (body_bytes p) ≡ cond (code == 0) 2 3 → length (written p) ≡ ack_length code
by_code p code e = elim (cases_Bool (code == 0)) [
  | inl z ↦ rw z (short_length p 2 (rw z at e) (omega arith))
  | inr z ↦ rw z (short_length p 3 (rw z at e) (omega arith))
]

pub puback_length : (id code : ℕ) → length (written (puback id code)) ≡ ack_length code
unfolding body_bytes
puback_length id code = by_code (puback id code) code (ack_bytes places.Puback id code)

pub pubrec_length : (id code : ℕ) → length (written (pubrec id code)) ≡ ack_length code
unfolding body_bytes
pubrec_length id code = by_code (pubrec id code) code (ack_bytes places.Pubrec id code)

pub pubrel_length : (id code : ℕ) → length (written (pubrel id code)) ≡ ack_length code
unfolding body_bytes
pubrel_length id code = by_code (pubrel id code) code (ack_bytes places.Pubrel id code)

pub pubcomp_length : (id code : ℕ) → length (written (pubcomp id code)) ≡ ack_length code
unfolding body_bytes
pubcomp_length id code = by_code (pubcomp id code) code (ack_bytes places.Pubcomp id code)

pub pingresp_length : length (written packets.Pingresp) ≡ 2
unfolding body_bytes
pingresp_length = short_length packets.Pingresp 0 refl (omega arith)

ended_bytes : (code : ℕ) → 0 < code → length ((ended places.Disconnect).bytes (record { reason = code; properties = [] })) ≡ 1
unfolding ended reason
ended_bytes code lt = elim (cases_Bool (code == 0)) [
  | inl z ↦ absurd (omega (arith, lt, eqb-true code 0 z))
  | inr z ↦ rw z refl
]

pub disconnect_fit : (limit code : ℕ) → 0 < code → nat_le 3 limit ≡ fits limit (disconnect code)
unfolding body_bytes
disconnect_fit limit code lt = rw (short_length (disconnect code) 1 (ended_bytes code lt) (omega arith)) refl

-- ---- lists of codes
suback_bytes : (id : ℕ) (codes : List ℕ) → length (body_bytes (suback id codes)) ≡ 3 + length codes
unfolding body_bytes reasons properties
suback_bytes id codes = omega (arith, length-append ((number w16).bytes id) (0 ∷ codes), two id)

unsuback_bytes : (id : ℕ) (codes : List ℕ) → length (body_bytes (unsuback id codes)) ≡ 3 + length codes
unfolding body_bytes reasons properties
unsuback_bytes id codes = omega (arith, length-append ((number w16).bytes id) (0 ∷ codes), two id)

above : (n limit : ℕ) → limit < n → nat_le n limit ≡ false
above n limit lt = elim (cases_Bool (nat_le n limit)) [
  | inl t ↦ absurd (let le = leb-true n limit t in omega (arith, lt, le))
  | inr f ↦ f
]

list_fit : (p : Packet) (count limit : ℕ) → length (body_bytes p) ≡ 3 + count → limit ≤ 268435460 → nat_le (list_length count) limit ≡ fits limit p
list_fit p count limit e le = elim (cases_lt 268435460 count) [
  | inl lt ↦
      let t : nat_lt 268435460 count ≡ true = lt-ltb 268435460 count lt in
      rw (t, above count limit (omega (arith, lt, le)), above (length (written p)) limit (omega (arith, written_length p, e, lt, le))) refl
  | inr ge ↦
      let f : nat_lt 268435460 count ≡ false = le-ltb 268435460 count ge in
      rw (f, written_length p, e) refl
]

pub suback_fit : (id limit : ℕ) (codes : List ℕ) → limit ≤ 268435460 → nat_le (list_length (length codes)) limit ≡ fits limit (suback id codes)
suback_fit id limit codes le = list_fit (suback id codes) (length codes) limit (suback_bytes id codes) le

pub unsuback_fit : (id limit : ℕ) (codes : List ℕ) → limit ≤ 268435460 → nat_le (list_length (length codes)) limit ≡ fits limit (unsuback id codes)
unsuback_fit id limit codes le = list_fit (unsuback id codes) (length codes) limit (unsuback_bytes id codes) le

-- ---- CONNACK
pub assigned_bytes : (given client : List ℕ) → length (properties_bytes (assigned given client ++ record { id = 33; value = Two 100 } ∷ record { id = 34; value = Two 16 } ∷ record { id = 39; value = Four 1048576 } ∷ [])) ≡ 11 + assigned_length given client
assigned_bytes [] client = omega (arith, length-append (text.bytes client) (properties_bytes (record { id = 33; value = Two 100 } ∷ record { id = 34; value = Two 16 } ∷ record { id = 39; value = Four 1048576 } ∷ [])))
assigned_bytes (b ∷ bs) client = refl

pub connack_bytes : (present : Bool) (given client : List ℕ) → length (body_bytes (connack present given client)) ≡ 2 + length (vbi.bytes (11 + assigned_length given client)) + (11 + assigned_length given client)
unfolding body_bytes connack_body properties
connack_bytes present given client =
    let ps = assigned given client ++ record { id = 33; value = Two 100 } ∷ record { id = 34; value = Two 16 } ∷ record { id = 39; value = Four 1048576 } ∷ [] in
    let e = assigned_bytes given client in
    let v : length (vbi.bytes (length (properties_bytes ps))) ≡ length (vbi.bytes (11 + assigned_length given client)) = ap (λ (n : ℕ). length (vbi.bytes n)) e in
    omega (arith, length-append (vbi.bytes (length (properties_bytes ps))) (properties_bytes ps), e, v)

pub connack_fit : (present : Bool) (given client : List ℕ) (limit n m : ℕ) → n ≡ 11 + assigned_length given client → m ≡ 2 + length (vbi.bytes n) + n → nat_le (1 + length (vbi.bytes m) + m) limit ≡ fits limit (connack present given client)
connack_fit present given client limit n m en em = rw (written_length (connack present given client), connack_bytes present given client, ← en, ← em) refl
