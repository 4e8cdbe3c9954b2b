-- The packets that came have a spelling, and so have those that a node sends of its own.
use Rattle.std.proofs.Common.{◌≡◌, ℕ, zero, suc, cond, ◌+◌, ◌<◌, ◌≤◌, ◌^◌, ◌/◌, Bool, true, false, List, [], ◌∷◌, ◌++◌, length, get_or, Option, Some, None, inl, inr, refl, sym, ap, subst, ◌∙◌, length-append, arith}
use Rattle.std.specs.Prelude.{◌≢◌, not, ◌==◌, ◌&&◌, map as map_list, IfSome}
use Rattle.std.specs.List.{list_all, AllByRecursion}
use Rattle.std.specs.Int.{w8}
use Rattle.std.proofs.lemmas.Bool.{and_parts, cases_lt}
use Rattle.mqtt_fields.specs.Block.{is_multiple, is_new, property, properties, properties_bytes}
use Rattle.mqtt_fields.specs.Field.{IsBytes}
use Rattle.mqtt_fields.specs.Numbers.{IsText, number, text, vbi}
use Rattle.mqtt_fields.specs.Table.{entry_of, is_here}
use Rattle.mqtt_fields.proofs.LengthLaws.{vbi_one, vbi_two, vbi_three, vbi_four}
use Rattle.mqtt_packets.specs.declared.packet.Packet.{Packet}
use Rattle.mqtt_packets.specs.declared.packet.Packet.TheVariants as packets
use Rattle.mqtt_packets.specs.declared.subscribe.Subscribe.{Subscribe}
use Rattle.mqtt_packets.specs.declared.unsubscribe.Unsubscribe.{Unsubscribe}
use Rattle.mqtt_packets.specs.Ack.{reason, is_success}
use Rattle.mqtt_packets.specs.Connack.{connack}
use Rattle.mqtt_packets.specs.Cut.{AreSpellings}
use Rattle.mqtt_packets.specs.Ended.{ended}
use Rattle.mqtt_packets.specs.Packet.{head_of, body_bytes, BodyFits}
use Rattle.mqtt_packets.specs.Stream.{cut}
use Rattle.mqtt_packets.specs.Subscribe.{subscribe, is_valid_filter}
use Rattle.mqtt_packets.specs.Unsubscribe.{unsubscribe}
use Rattle.mqtt_packets.specs.Values.{are_valid}
use Rattle.mqtt_packets.specs.Written.{HasSpelling}
use Rattle.mqtt_packets.proofs.SpelledLaws.{cut_is_spelled}
use Rattle.mqtt_packets.proofs.WrittenLaws.{sound_of, spelling_of}
use Rattle.mqtt_sessions.specs.Answers.{disconnect}
use Rattle.node_work.specs.Acts.{Act}
use Rattle.node_work.specs.Held.Calling.{MayAnswer}
use Rattle.node_work.specs.Packets.{HaveSpellings, moved_packet, reference_of, refused_packet}
use Rattle.node_work.specs.View.{Place, HeldView}
use Rattle.node_work.specs.Working.{Doing, InTurn}

each_spelled : (limit : ℕ) (spellings : List (List ℕ)) (ps : List Packet) → AreSpellings limit spellings ps → HaveSpellings ps
each_spelled limit [] [] all = tt
each_spelled limit (s ∷ ss) (p ∷ ps) all = ((s, all.0), each_spelled limit ss ps all.2)
each_spelled limit [] (p ∷ ps) all = absurd all
each_spelled limit (s ∷ ss) [] all = tt

pub cut_spelled : (limit : ℕ) (bs : List ℕ) → IsBytes bs → HaveSpellings (cut limit bs).packets
cut_spelled limit bs fits = let is = cut_is_spelled limit bs fits in each_spelled limit is.spellings (cut limit bs).packets is.spelled

-- each of them
pub item_of : {A : Type 0} (P : A → Type 0) (xs : List A) (i : ℕ) (x : A) → i < length xs → x ≡ get_or xs i x → AllByRecursion P xs → P x
item_of P [] i x below at all = absurd (omega (arith, below))
item_of P (y ∷ xs) zero x below at all = subst P (sym at) all.0
item_of P (y ∷ xs) (suc i) x below at all = item_of P xs i x (omega (arith, below)) at all.1

-- ---- as many answers as there were items

pub map_length : {A B : Type 0} (f : A → B) (xs : List A) → length (map_list f xs) ≡ length xs
map_length f [] = refl
map_length f (x ∷ xs) = ap suc (map_length f xs)

in_turn_length : {A B : Type 0} (One : A → Option B → Doing) (xs : List A) (given out : List B) (p : Place) (h : HeldView) (acts : List Act) → InTurn One xs given (Some out) p h acts → length out ≡ length given + length xs
in_turn_length One [] given out p h acts d = let is : out ≡ given = (let z = d.0 in cc) in ap length is ∙ (let e : length given ≡ length given + 0 = omega arith in e)
in_turn_length One (x ∷ xs) given out p h acts (inl d) = let z : Some out ≡ None = d.0 in cc
in_turn_length One (x ∷ xs) given out p h acts (inr d) =
    let more = in_turn_length One xs (given ++ d.0 ∷ []) out p d.2 d.3 d.6 in
    omega (arith, more, length-append given (d.0 ∷ []))

pub answers_length : {A B : Type 0} (One : A → Option B → Doing) (xs : List A) (out : List B) (p : Place) (h : HeldView) (acts : List Act) → InTurn One xs [] (Some out) p h acts → length out ≡ length xs
answers_length One xs out p h acts d = let e : length out ≡ 0 + length xs = in_turn_length One xs [] out p h acts d in omega (arith, e)

-- ---- the codes of a SUBSCRIBE or an UNSUBSCRIBE that came

not_zero : (n : ℕ) → not (n == 0) ≡ true → 1 ≤ n
not_zero zero e = cc
not_zero (suc n) e = omega arith

some_codes : (codes : List ℕ) → 1 ≤ length codes → codes ≢ []
some_codes [] some e = absurd (omega (arith, some))
some_codes (c ∷ cs) some e = cc

may_answer : (id count : ℕ) (codes : List ℕ) → not (id == 0) ≡ true → not (count == 0) ≡ true → length codes ≡ count → MayAnswer id codes
may_answer id count codes e f g = let some = not_zero count f in (not_zero id e, some_codes codes (omega arith))

pub subscribe_answers : (p : Subscribe) (codes : List ℕ) → HasSpelling (packets.Subscribe p) → length codes ≡ length p.filters → MayAnswer p.identifier codes
unfolding BodyFits subscribe
subscribe_answers p codes h e =
    let s = sound_of (packets.Subscribe p) h in
    let parts = and_parts (not (p.identifier == 0) && are_valid p.properties) (not (length p.filters == 0) && list_all is_valid_filter p.filters) s.fits.1 in
    may_answer p.identifier (length p.filters) codes (and_parts (not (p.identifier == 0)) (are_valid p.properties) parts.0).0 (and_parts (not (length p.filters == 0)) (list_all is_valid_filter p.filters) parts.1).0 e

pub unsubscribe_answers : (p : Unsubscribe) (codes : List ℕ) → HasSpelling (packets.Unsubscribe p) → length codes ≡ length p.filters → MayAnswer p.identifier codes
unfolding BodyFits unsubscribe
unsubscribe_answers p codes h e =
    let s = sound_of (packets.Unsubscribe p) h in
    let parts = and_parts (not (p.identifier == 0) && are_valid p.properties) (not (length p.filters == 0)) s.fits.1 in
    may_answer p.identifier (length p.filters) codes (and_parts (not (p.identifier == 0)) (are_valid p.properties) parts.0).0 parts.1 e

-- ---- CONNACK to a client that is refused

vbi_at_most_four : (n : ℕ) → length (vbi.bytes n) ≤ 4
vbi_at_most_four n =
    elim (cases_lt n 128) [
      | inl a ↦ omega (arith, vbi_one n a)
      | inr a ↦ elim (cases_lt (n / 128) 128) [
        | inl b ↦ omega (arith, vbi_two n a b)
        | inr b ↦ elim (cases_lt (n / 128 / 128) 128) [
          | inl c ↦ omega (arith, vbi_three n a b c)
          | inr c ↦ omega (arith, vbi_four n a b c)
        ]
      ]
    ]

address_bytes : (address : List ℕ) → length (properties_bytes (reference_of (Some address))) ≡ 3 + length address
address_bytes address = omega (arith, length-append (text.bytes address) [])

refused_short : (code : ℕ) (address : List ℕ) → IsText address → length (body_bytes (refused_packet code (Some address))) < 2 ^ 28
unfolding body_bytes connack properties
refused_short code address is =
    let block = properties_bytes (reference_of (Some address)) in
    omega (arith, length-append (vbi.bytes (length block)) block, vbi_at_most_four (length block), address_bytes address, is.0)

pub refused_spelled : (code : ℕ) (reference : Option (List ℕ)) → code < 256 → IfSome reference IsText → HasSpelling (refused_packet code reference)
unfolding head_of BodyFits body_bytes connack properties property entry_of is_here is_new is_multiple
refused_spelled code None below is = spelling_of (refused_packet code None) record {
  begins = refl;
  fits = ((((omega arith, refl), (omega (arith, below), (omega arith, tt))), refl), refl);
  short = omega arith;
}
refused_spelled code (Some address) below is = spelling_of (refused_packet code (Some address)) record {
  begins = refl;
  fits = ((((omega arith, refl), (omega (arith, below), (omega (arith, address_bytes address, is.0), (((((omega arith, refl), refl), refl), is), tt)))), refl), refl);
  short = refused_short code address is;
}

-- ---- DISCONNECT

short_form : (b : Bool) (xs : List ℕ) → length xs < 2 ^ 28 → length (cond b [] xs) < 2 ^ 28
short_form true xs e = omega arith
short_form false xs e = e

pub disconnect_spelled : (code : ℕ) → code < 256 → HasSpelling (disconnect code)
unfolding head_of BodyFits body_bytes ended reason properties
disconnect_spelled code below = spelling_of (disconnect code) record {
  begins = refl;
  fits = (((omega (arith, below), (omega arith, tt)), refl), refl);
  short = short_form (is_success (code, [])) ((number w8).bytes code ++ []) (omega arith);
}

-- ---- DISCONNECT with the address of another server

moved_short : (address : List ℕ) → IsText address → length (body_bytes (moved_packet address)) < 2 ^ 28
unfolding body_bytes ended reason properties
moved_short address is =
    let block = properties_bytes (reference_of (Some address)) in
    omega (arith, length-append (vbi.bytes (length block)) block, vbi_at_most_four (length block), address_bytes address, is.0)

pub moved_spelled : (address : List ℕ) → IsText address → HasSpelling (moved_packet address)
unfolding head_of BodyFits body_bytes ended reason properties property entry_of is_here is_new is_multiple
moved_spelled address is = spelling_of (moved_packet address) record {
  begins = refl;
  fits = (((omega arith, (omega (arith, address_bytes address, is.0), (((((omega arith, refl), refl), refl), is), tt))), refl), refl);
  short = moved_short address is;
}
