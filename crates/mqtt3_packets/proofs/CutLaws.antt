-- A PUBLISH of MQTT 5.0 is cut by where its parts stand.
use Rattle.std.proofs.Common.{◌≡◌, ◌≤◌, ℕ, ◌+◌, ◌-◌, ◌/◌, ◌%◌, ◌<◌, Bool, true, false, cond, eqb, ltb, List, [], ◌∷◌, ◌++◌, get_or, length, take, drop, Option, Some, None, Result, Ok, Err, refl, sym, ap, subst, ◌∙◌, append_assoc, arith}
use Rattle.std.specs.Prelude.{◌==◌, ◌&&◌, option_map}
use Rattle.std.specs.Int.{w16, to_be_bytes}
use Rattle.std.proofs.lemmas.List.{length-append, take_all, take_at, drop_at}
use Rattle.std.proofs.lemmas.Bool.{le-ltb}
use Rattle.std.proofs.lemmas.Option.{same_Some}
use Rattle.mqtt_fields.specs.declared.fault.FieldFault.{FieldFault}
use Rattle.mqtt_fields.specs.declared.options.Qos.{Qos}
use Rattle.mqtt_fields.specs.declared.options.Qos.TheVariants as levels
use Rattle.mqtt_fields.specs.declared.table.Place.TheVariants as places
use Rattle.mqtt_fields.specs.declared.value.Property.{Property}
use Rattle.mqtt_fields.specs.Block.{properties}
use Rattle.mqtt_fields.specs.Numbers.{number, text, vbi}
use Rattle.mqtt_fields.specs.Reading.{◌>>=◌}
use Rattle.mqtt_fields.proofs.Laws.{IsBytes, IsBytes-after, bind_ok, guard_passed, ok_is}
use Rattle.mqtt_fields.proofs.NumberLaws.{wide16, number_is, text_is}
use Rattle.mqtt_packets.specs.declared.fault.PacketFault.{PacketFault}
use Rattle.mqtt_packets.specs.declared.fault.PacketFault.TheVariants.{ProtocolError}
use Rattle.mqtt_packets.specs.declared.packet.Packet.{Packet}
use Rattle.mqtt_packets.specs.declared.packet.Packet.TheVariants as packets
use Rattle.mqtt_packets.specs.declared.publish.Publish.{Publish}
use Rattle.mqtt_packets.specs.Head.{head_at, level_of, with_qos, is_at_most_once}
use Rattle.mqtt_packets.specs.Packet.{body_of, head_of}
use Rattle.mqtt_packets.specs.Publish.{flags_of, publish}
use Rattle.mqtt_packets.specs.Reading.{field_at}
use Rattle.mqtt_packets.specs.Stream.{header_at, packet_at}
use Rattle.mqtt_packets.proofs.BodyLaws.{field_ok}
use Rattle.mqtt_packets.proofs.StreamLaws.{used}
use Rattle.mqtt3_packets.specs.declared.level.Level.{Level}
use Rattle.mqtt3_packets.specs.declared.publish.PublishFlags.{PublishFlags}
use Rattle.mqtt3_packets.specs.Cut.{HasBody, IsMadeOf, IsPassed, begun, first_of, identifier_at, is_valid_with, kept_if, parts_at}
use Rattle.mqtt3_packets.specs.Kinds.{flags_at, flags_with}
use Rattle.mqtt3_packets.specs.Written.{framed, publish_body, publish_bytes, written}

-- what a first byte says
flags_case : (t : Bool) (g f : PublishFlags) → cond t None (Some g) ≡ Some f → cond t None (Some (flags_of (begun g))) ≡ Some (flags_of (begun f))
flags_case true g f e = absurd cc
flags_case false g f e = ap (λ (h : PublishFlags). Some (flags_of (begun h))) (same_Some g f e)

flags_same : (n : ℕ) (o : Option Qos) (f : PublishFlags) → flags_with n o ≡ Some f → with_qos n o ≡ Some (flags_of (begun f))
flags_same n None f e = absurd cc
flags_same n (Some q) f e = flags_case (ltb 7 n && is_at_most_once q) (record { dup = ltb 7 n; qos = q; retain = n % 2 == 1 }) f e

pub flags_are : (b : ℕ) (f : PublishFlags) → b / 16 ≡ 3 → flags_at (b % 16) ≡ Some f → head_at b ≡ Some (head_of (packets.Publish (begun f)))
unfolding head_at head_of
flags_are b f three e = rw (three, flags_same (b % 16) (level_of (b % 16 / 2 % 4)) f e) refl

-- what stands before a rest
pub front_is : (bs a r b s : List ℕ) → bs ≡ a ++ r → r ≡ b ++ s → take (length bs - length s) bs ≡ a ++ b
front_is bs a r b s one two =
    let whole : bs ≡ (a ++ b) ++ s = one ∙ ap (λ (xs : List ℕ). a ++ xs) two ∙ sym (append_assoc a b s) in
    let len : length bs ≡ length (a ++ b) + length s = ap length whole ∙ length-append (a ++ b) s in
    ap (take (length bs - length s)) whole ∙ take_at (a ++ b) s (length bs - length s) (omega arith)

-- the body of a PUBLISH is read so, and this is sent of it
abbrev IsRead : PublishFlags → List ℕ → List ℕ × List ℕ → Type 0
IsRead f bs x = IsMadeOf f bs x.0 x.1

abbrev pub flags : Bool → Qos → Bool → PublishFlags
flags d q r = record { dup = d; qos = q; retain = r }

abbrev made : Bool → Qos → Bool → List ℕ → ℕ → List Property → List ℕ → Publish
made d q r topic n ps payload = record { dup = d; qos = q; retain = r; topic = topic; identifier = n; properties = ps; payload = payload }

read_once : (d r : Bool) (bs topic rest : List ℕ) (ps : List Property) (payload : List ℕ) → field_at text bs ≡ Ok (topic, rest) → field_at (properties places.Publish) rest ≡ Ok (ps, payload)
    → is_valid_with (flags d levels.AtMostOnce r) topic 0 ps ≡ true → (publish (flags_of (begun (flags d levels.AtMostOnce r)))).of bs ≡ Ok (made d levels.AtMostOnce r topic 0 ps payload)
unfolding publish
read_once d r bs topic rest ps payload t p valid = rw (t, p, valid) refl

read_least : (d r : Bool) (bs topic between : List ℕ) (n : ℕ) (rest : List ℕ) (ps : List Property) (payload : List ℕ) → field_at text bs ≡ Ok (topic, between) → field_at (number w16) between ≡ Ok (n, rest)
    → field_at (properties places.Publish) rest ≡ Ok (ps, payload) → is_valid_with (flags d levels.AtLeastOnce r) topic n ps ≡ true → (publish (flags_of (begun (flags d levels.AtLeastOnce r)))).of bs ≡ Ok (made d levels.AtLeastOnce r topic n ps payload)
unfolding publish
read_least d r bs topic between n rest ps payload t i p valid = rw (t, i, p, valid) refl

read_exact : (d r : Bool) (bs topic between : List ℕ) (n : ℕ) (rest : List ℕ) (ps : List Property) (payload : List ℕ) → field_at text bs ≡ Ok (topic, between) → field_at (number w16) between ≡ Ok (n, rest)
    → field_at (properties places.Publish) rest ≡ Ok (ps, payload) → is_valid_with (flags d levels.ExactlyOnce r) topic n ps ≡ true → (publish (flags_of (begun (flags d levels.ExactlyOnce r)))).of bs ≡ Ok (made d levels.ExactlyOnce r topic n ps payload)
unfolding publish
read_exact d r bs topic between n rest ps payload t i p valid = rw (t, i, p, valid) refl

abbrev after_properties : PublishFlags → List ℕ → List ℕ × List ℕ → ℕ × List ℕ → List Property × List ℕ → Result (List ℕ × List ℕ) PacketFault
after_properties f bs t i p = kept_if (is_valid_with f t.0 i.0 p.0) (take (length bs - length i.1) bs) p.1

abbrev after_identifier : PublishFlags → List ℕ → List ℕ × List ℕ → ℕ × List ℕ → Result (List ℕ × List ℕ) PacketFault
after_identifier f bs t i = field_at (properties places.Publish) i.1 >>= λ p. after_properties f bs t i p

abbrev after_topic : PublishFlags → List ℕ → List ℕ × List ℕ → Result (List ℕ × List ℕ) PacketFault
after_topic f bs t = identifier_at f t.1 >>= λ i. after_identifier f bs t i

-- the parts were found one after the other
record Found (f : PublishFlags) (bs : List ℕ) (x : List ℕ × List ℕ) : Type 0 where
  topic : List ℕ
  between : List ℕ
  identifier : ℕ
  rest : List ℕ
  properties_are : List Property
  payload : List ℕ
  topic_is : field_at text bs ≡ Ok (topic, between)
  identifier_is : identifier_at f between ≡ Ok (identifier, rest)
  properties_at : field_at (properties places.Publish) rest ≡ Ok (properties_are, payload)
  valid : is_valid_with f topic identifier properties_are ≡ true
  same : ◌≡◌ {A = List ℕ × List ℕ} (take (length bs - length rest) bs, payload) x

found_of : (f : PublishFlags) (bs : List ℕ) (x : List ℕ × List ℕ) → parts_at f bs ≡ Ok x → Found f bs x
unfolding parts_at
found_of f bs x e =
    let t = bind_ok (field_at text bs) (after_topic f bs) x e in
    let i = bind_ok (identifier_at f t.0.1) (after_identifier f bs t.0) x t.2 in
    let p = bind_ok (field_at (properties places.Publish) i.0.1) (after_properties f bs t.0 i.0) x i.2 in
    let g = guard_passed (is_valid_with f t.0.0 i.0.0 p.0.0) ProtocolError (take (length bs - length i.0.1) bs, p.0.1) x p.2 in
    record { topic = t.0.0; between = t.0.1; identifier = i.0.0; rest = i.0.1; properties_are = p.0.0; payload = p.0.1; topic_is = t.1; identifier_is = i.1; properties_at = p.1; valid = g.0; same = g.1 }

pub topic_takes : (bs topic rest : List ℕ) → IsBytes bs → field_at text bs ≡ Ok (topic, rest) → bs ≡ text.bytes topic ++ rest
topic_takes bs topic rest fits e = (text_is.takes bs (topic, rest) fits (field_ok (text.at bs) (topic, rest) e)).0

pub number_takes : (bs : List ℕ) (n : ℕ) (rest : List ℕ) → IsBytes bs → field_at (number w16) bs ≡ Ok (n, rest) → bs ≡ to_be_bytes w16 n ++ rest
number_takes bs n rest fits e = ((number_is w16 wide16).takes bs (n, rest) fits (field_ok ((number w16).at bs) (n, rest) e)).0

sent_same : (first : ℕ) (bs topic identifier between rest payload : List ℕ) → bs ≡ text.bytes topic ++ between → between ≡ identifier ++ rest
    → framed first (text.bytes topic ++ (identifier ++ payload)) ≡ framed first (take (length bs - length rest) bs ++ payload)
sent_same first bs topic identifier between rest payload one two =
    ap (framed first) (sym (ap (λ (xs : List ℕ). xs ++ payload) (front_is bs (text.bytes topic) between identifier rest one two) ∙ append_assoc (text.bytes topic) identifier payload))

read_case : (d : Bool) (q : Qos) (r : Bool) (bs : List ℕ) (x : List ℕ × List ℕ) → IsBytes bs → Found (flags d q r) bs x → IsRead (flags d q r) bs x
read_case d levels.AtMostOnce r bs x fits h =
    let same : ◌≡◌ {A = ℕ × List ℕ} (0, h.between) (h.identifier, h.rest) = ok_is _ _ h.identifier_is in
    let none : h.between ≡ h.rest = ap (λ (y : ℕ × List ℕ). y.1) same in
    let p_at : field_at (properties places.Publish) h.between ≡ Ok (h.properties_are, h.payload) = rw none h.properties_at in
    subst (IsRead (flags d levels.AtMostOnce r) bs) h.same
    (record {
      publish = made d levels.AtMostOnce r h.topic 0 h.properties_are h.payload;
      read = read_once d r bs h.topic h.between h.properties_are h.payload h.topic_is p_at h.valid;
      made =
          sent_same (first_of (flags d levels.AtMostOnce r)) bs h.topic [] h.between h.rest h.payload (topic_takes bs h.topic h.between fits h.topic_is) none;
    })
read_case d levels.AtLeastOnce r bs x fits h =
    let one : bs ≡ text.bytes h.topic ++ h.between = topic_takes bs h.topic h.between fits h.topic_is in
    subst (IsRead (flags d levels.AtLeastOnce r) bs) h.same
    (record {
      publish = made d levels.AtLeastOnce r h.topic h.identifier h.properties_are h.payload;
      read = read_least d r bs h.topic h.between h.identifier h.rest h.properties_are h.payload h.topic_is h.identifier_is h.properties_at h.valid;
      made =
          sent_same (first_of (flags d levels.AtLeastOnce r)) bs h.topic (to_be_bytes w16 h.identifier) h.between h.rest h.payload one (number_takes h.between h.identifier h.rest (IsBytes-after bs (text.bytes h.topic) h.between fits one) h.identifier_is);
    })
read_case d levels.ExactlyOnce r bs x fits h =
    let one : bs ≡ text.bytes h.topic ++ h.between = topic_takes bs h.topic h.between fits h.topic_is in
    subst (IsRead (flags d levels.ExactlyOnce r) bs) h.same
    (record {
      publish = made d levels.ExactlyOnce r h.topic h.identifier h.properties_are h.payload;
      read = read_exact d r bs h.topic h.between h.identifier h.rest h.properties_are h.payload h.topic_is h.identifier_is h.properties_at h.valid;
      made =
          sent_same (first_of (flags d levels.ExactlyOnce r)) bs h.topic (to_be_bytes w16 h.identifier) h.between h.rest h.payload one (number_takes h.between h.identifier h.rest (IsBytes-after bs (text.bytes h.topic) h.between fits one) h.identifier_is);
    })

pub made_of : (f : PublishFlags) (bs front payload : List ℕ) → IsBytes bs → parts_at f bs ≡ Ok (front, payload) → IsMadeOf f bs front payload
made_of f bs front payload fits e = read_case f.dup f.qos f.retain bs (front, payload) fits (found_of f bs (front, payload) e)

-- the header of a PUBLISH
body_behind : (b : ℕ) (bs : List ℕ) (f : PublishFlags) (len : ℕ) (rest : List ℕ) → head_at b ≡ Some (head_of (packets.Publish (begun f))) → vbi.at bs ≡ Ok (len, rest) → len ≤ length rest → HasBody (b ∷ bs) f (take len rest) (drop len rest)
unfolding header_at packet_at head_of body_of
body_behind b bs f len rest head at fits = λ p read.
    let long : ltb (length rest) len ≡ false = le-ltb _ _ fits in
    rw (head, at, long, read) refl

pub body_in : (bs : List ℕ) (f : PublishFlags) (len : ℕ) (rest front back : List ℕ) → 0 < length bs → head_at (get_or bs 0 0) ≡ Some (head_of (packets.Publish (begun f))) → vbi.at (take (length bs - 1) (drop 1 bs)) ≡ Ok (len, rest) → len ≤ length rest
    → front ≡ take len rest → back ≡ drop len rest → HasBody bs f front back
body_in [] f len rest front back lt head at fits is_front is_back = absurd (omega (arith, lt))
body_in (b ∷ bs) f len rest front back lt head at fits is_front is_back =
    let same : take (length (b ∷ bs) - 1) bs ≡ bs = take_all (length (b ∷ bs) - 1) bs (omega arith) in
    subst (λ (xs : List ℕ). HasBody (b ∷ bs) f xs back) (sym is_front) (subst (λ (xs : List ℕ). HasBody (b ∷ bs) f (take len rest) xs) (sym is_back) (body_behind b bs f len rest head (ap vbi.at (sym same) ∙ at) fits))

pub cut_is : (f : PublishFlags) (bs body rest front payload old new : List ℕ) → IsBytes bs → HasBody bs f body rest → IsMadeOf f body front payload → new ≡ old ++ framed (first_of f) (front ++ payload)
    → IsPassed bs (length bs - length rest) old new
unfolding written
cut_is f bs body rest front payload old new fits has parts new_is =
    let found = has parts.publish parts.read in
    let u = used bs (packets.Publish parts.publish, rest) fits found in
    record {
      publish = parts.publish;
      fits = omega arith;
      found = found ∙ ap (λ (xs : List ℕ). Ok (Some (packets.Publish parts.publish, xs))) (sym u.1);
      sent = λ level. new_is ∙ ap (λ (xs : List ℕ). old ++ xs) (sym parts.made);
    }
