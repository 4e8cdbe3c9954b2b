-- A client's PUBLISH is widened by where its parts stand.
use Rattle.std.proofs.Common.{◌≡◌, ◌≤◌, ℕ, suc, ◌+◌, ◌-◌, ◌/◌, ◌%◌, ◌<◌, ◌^◌, Bool, true, false, cond, ltb, List, [], ◌∷◌, ◌++◌, get_or, length, take, drop, Option, Some, None, Result, Ok, Err, refl, sym, ap, subst, ◌∙◌, append_assoc, arith}
use Rattle.std.specs.Prelude.{◌==◌, ◌&&◌, ◌||◌, not, IsTrue}
use Rattle.std.specs.Int.{w16, to_be_bytes}
use Rattle.std.proofs.lemmas.List.{length-append, length-drop, drop-drop, take_all}
use Rattle.std.proofs.lemmas.Bool.{le-ltb}
use Rattle.std.proofs.lemmas.Option.{same_Some}
use Rattle.mqtt_fields.specs.declared.options.Qos.{Qos}
use Rattle.mqtt_fields.specs.declared.options.Qos.TheVariants as levels
use Rattle.mqtt_fields.specs.declared.table.Place.TheVariants as places
use Rattle.mqtt_fields.specs.Block.{properties}
use Rattle.mqtt_fields.specs.Numbers.{number, text, vbi}
use Rattle.mqtt_fields.specs.Reading.{◌>>=◌}
use Rattle.mqtt_fields.proofs.Laws.{IsBytes, IsBytes-after, bind_ok, guard_passed, ok_is, used}
use Rattle.mqtt_fields.proofs.NumberLaws.{wide16, number_is, text_is, vbi_is}
use Rattle.mqtt_packets.specs.declared.fault.PacketFault.{PacketFault}
use Rattle.mqtt_packets.specs.declared.fault.PacketFault.TheVariants.{ProtocolError}
use Rattle.mqtt_packets.specs.declared.packet.Packet.{Packet}
use Rattle.mqtt_packets.specs.declared.packet.Packet.TheVariants as packets
use Rattle.mqtt_packets.specs.declared.publish.Publish.{Publish}
use Rattle.mqtt_packets.specs.Head.{first_byte, is_allowed, is_at_most_once, level_of}
use Rattle.mqtt_packets.specs.Packet.{BodyFits, body_bytes, head_of}
use Rattle.mqtt_packets.specs.Publish.{flags_of}
use Rattle.mqtt_packets.specs.Publish as five
use Rattle.mqtt_packets.specs.Reading.{field_at}
use Rattle.mqtt_packets.specs.Written.{IsSound}
use Rattle.mqtt_packets.specs.Written as fives
use Rattle.mqtt_packets.proofs.BodyLaws.{field_ok}
use Rattle.mqtt_packets.proofs.WrittenLaws.{spelling_of}
use Rattle.mqtt3_packets.specs.declared.level.Level.{Level}
use Rattle.mqtt3_packets.specs.declared.level.Level.TheVariants.{Three, Four}
use Rattle.mqtt3_packets.specs.declared.packet.Kind.TheVariants as kinds
use Rattle.mqtt3_packets.specs.declared.publish.PublishFlags.{PublishFlags}
use Rattle.mqtt3_packets.specs.declared.widen.FrontPublish.{FrontPublish}
use Rattle.mqtt3_packets.specs.Bodies.{publish}
use Rattle.mqtt3_packets.specs.Cut.{begun, first_of, identifier_at}
use Rattle.mqtt3_packets.specs.Kinds.{flags_at, flags_with, kind_at, kind_of, packet_of}
use Rattle.mqtt3_packets.specs.Stream.{IsRest, header_at, packet_at}
use Rattle.mqtt3_packets.specs.Widen.{HasPublish, IsPublishHead, IsWideOf, IsWidened, is_valid_before, wide_body, wide_bytes, widened_at, widened_if}
use Rattle.mqtt3_packets.proofs.CutLaws.{flags, front_is, number_takes, topic_takes}

-- what a client's first byte says
allowed_case : (t : Bool) (g f : PublishFlags) → (g.dup && is_at_most_once g.qos) ≡ t → cond t None (Some g) ≡ Some f → IsTrue (is_allowed (flags_of (begun f)))
allowed_case true g f is e = absurd cc
allowed_case false g f is e =
    let same : g ≡ f = same_Some g f e in
    ap (λ (h : PublishFlags). not (h.dup && is_at_most_once h.qos)) (sym same) ∙ ap not is

allowed_with : (n : ℕ) (o : Option Qos) (f : PublishFlags) → flags_with n o ≡ Some f → IsTrue (is_allowed (flags_of (begun f)))
allowed_with n None f e = absurd cc
allowed_with n (Some q) f e = allowed_case (ltb 7 n && is_at_most_once q) (record { dup = ltb 7 n; qos = q; retain = n % 2 == 1 }) f refl e

kinds_are : (level : Level) (b : ℕ) (f : PublishFlags) → b / 16 ≡ 3 → flags_at (b % 16) ≡ Some f → kind_of level b ≡ Some (kinds.Publish f)
unfolding kind_of kind_at
kinds_are Three b f three e = rw (three, three, e) refl
kinds_are Four b f three e = rw (three, e) refl

pub heads_are : (b : ℕ) (f : PublishFlags) → b / 16 ≡ 3 → flags_at (b % 16) ≡ Some f → IsPublishHead b f
heads_are b f three e = record { allowed = allowed_with (b % 16) (level_of (b % 16 / 2 % 4)) f e; kind = λ level. kinds_are level b f three e }

-- the header of a client's PUBLISH
rest_behind : (b : ℕ) (bs : List ℕ) (len : ℕ) (rest : List ℕ) → length rest ≤ length bs → drop (length bs - length rest) bs ≡ rest → len ≤ length rest → IsRest (b ∷ bs) (drop len rest)
rest_behind b bs len rest le last fits =
    let short : length (drop len rest) ≡ length rest - len = length-drop len rest in
    let n : length (b ∷ bs) - length (drop len rest) ≡ suc ((length bs - length rest) + len) = omega arith in
    (omega arith, ap (drop len) (sym last) ∙ drop-drop len (length bs - length rest) bs ∙ sym (ap (λ (k : ℕ). drop k (b ∷ bs)) n))

publish_behind : (b : ℕ) (bs : List ℕ) (f : PublishFlags) (len : ℕ) (rest : List ℕ) (p : Publish) (limit : ℕ) (level : Level) → kind_of level b ≡ Some (kinds.Publish f) → vbi.at bs ≡ Ok (len, rest)
    → ltb limit (length (b ∷ bs) - length rest + len) ≡ false → ltb (length rest) len ≡ false → (publish f).of (take len rest) ≡ Ok p → packet_at level limit (b ∷ bs) ≡ Ok (Some (packets.Publish p, drop len rest))
unfolding header_at packet_at packet_of
publish_behind b bs f len rest p limit level kind at small whole read = rw (kind, at, small, whole, read) refl

behind : (b : ℕ) (bs : List ℕ) (f : PublishFlags) (len : ℕ) (rest : List ℕ) → IsBytes bs → IsPublishHead b f → vbi.at bs ≡ Ok (len, rest) → len ≤ length rest → HasPublish (b ∷ bs) f (take len rest) (drop len rest)
behind b bs f len rest bytes head at fits =
    let u = used vbi vbi_is bs (len, rest) bytes at in
    let le : length rest ≤ length bs = u.0 in
    let short : length (drop len rest) ≡ length rest - len = length-drop len rest in
    record {
      allowed = head.allowed;
      last = rest_behind b bs len rest le u.1 fits;
      found = λ p read limit within level. publish_behind b bs f len rest p limit level (head.kind level) at (le-ltb limit (length (b ∷ bs) - length rest + len) (omega arith)) (le-ltb (length rest) len fits) read;
    }

pub publish_in : (bs : List ℕ) (f : PublishFlags) (len : ℕ) (rest body back : List ℕ) → IsBytes bs → 0 < length bs → IsPublishHead (get_or bs 0 0) f → vbi.at (take (length bs - 1) (drop 1 bs)) ≡ Ok (len, rest) → len ≤ length rest
    → body ≡ take len rest → back ≡ drop len rest → HasPublish bs f body back
publish_in [] f len rest body back bytes lt head at fits is_body is_back = absurd (omega (arith, lt))
publish_in (b ∷ bs) f len rest body back bytes lt head at fits is_body is_back =
    let same : take (length (b ∷ bs) - 1) bs ≡ bs = take_all (length (b ∷ bs) - 1) bs (omega arith) in
    subst (λ (xs : List ℕ). HasPublish (b ∷ bs) f xs back) (sym is_body) (subst (λ (xs : List ℕ). HasPublish (b ∷ bs) f (take len rest) xs) (sym is_back) (behind b bs f len rest (λ i. bytes (suc i)) head (ap vbi.at (sym same) ∙ at) fits))

-- the body of a client's PUBLISH is read so, and this is told of it
abbrev told_of : Bool → Qos → Bool → List ℕ → ℕ → List ℕ → Publish
told_of d q r topic n payload = record { dup = d; qos = q; retain = r; topic = topic; identifier = n; properties = []; payload = payload }

read_once : (d r : Bool) (bs topic payload : List ℕ) → field_at text bs ≡ Ok (topic, payload) → is_valid_before (flags d levels.AtMostOnce r) topic 0 ≡ true → (publish (flags d levels.AtMostOnce r)).of bs ≡ Ok (told_of d levels.AtMostOnce r topic 0 payload)
unfolding publish
read_once d r bs topic payload t valid = rw (t, valid) refl

read_least : (d r : Bool) (bs topic between : List ℕ) (n : ℕ) (payload : List ℕ) → field_at text bs ≡ Ok (topic, between) → field_at (number w16) between ≡ Ok (n, payload)
    → is_valid_before (flags d levels.AtLeastOnce r) topic n ≡ true → (publish (flags d levels.AtLeastOnce r)).of bs ≡ Ok (told_of d levels.AtLeastOnce r topic n payload)
unfolding publish
read_least d r bs topic between n payload t i valid = rw (t, i, valid) refl

read_exact : (d r : Bool) (bs topic between : List ℕ) (n : ℕ) (payload : List ℕ) → field_at text bs ≡ Ok (topic, between) → field_at (number w16) between ≡ Ok (n, payload)
    → is_valid_before (flags d levels.ExactlyOnce r) topic n ≡ true → (publish (flags d levels.ExactlyOnce r)).of bs ≡ Ok (told_of d levels.ExactlyOnce r topic n payload)
unfolding publish
read_exact d r bs topic between n payload t i valid = rw (t, i, valid) refl

-- an empty property block
none_bytes : (properties places.Publish).bytes [] ≡ 0 ∷ []
unfolding properties
none_bytes = refl

none_fits : (properties places.Publish).Fits []
unfolding properties
none_fits = (omega arith, tt)

-- how it is spelled in MQTT 5.0
wide_once : (d r : Bool) (topic payload : List ℕ) (n : ℕ) → body_bytes (packets.Publish (told_of d levels.AtMostOnce r topic n payload)) ≡ text.bytes topic ++ ([] ++ 0 ∷ payload)
unfolding body_bytes five.publish
wide_once d r topic payload n = rw none_bytes refl

wide_least : (d r : Bool) (topic payload : List ℕ) (n : ℕ) → body_bytes (packets.Publish (told_of d levels.AtLeastOnce r topic n payload)) ≡ text.bytes topic ++ (to_be_bytes w16 n ++ 0 ∷ payload)
unfolding body_bytes five.publish
wide_least d r topic payload n = rw none_bytes refl

wide_exact : (d r : Bool) (topic payload : List ℕ) (n : ℕ) → body_bytes (packets.Publish (told_of d levels.ExactlyOnce r topic n payload)) ≡ text.bytes topic ++ (to_be_bytes w16 n ++ 0 ∷ payload)
unfolding body_bytes five.publish
wide_exact d r topic payload n = rw none_bytes refl

wide_same : (bs topic identifier between payload : List ℕ) → bs ≡ text.bytes topic ++ between → between ≡ identifier ++ payload → text.bytes topic ++ (identifier ++ 0 ∷ payload) ≡ wide_body (take (length bs - length payload) bs) payload
wide_same bs topic identifier between payload one two =
    sym (ap (λ (xs : List ℕ). xs ++ 0 ∷ payload) (front_is bs (text.bytes topic) between identifier payload one two) ∙ append_assoc (text.bytes topic) identifier (0 ∷ payload))

first_same : (p : Publish) (f : PublishFlags) → p.dup ≡ f.dup → p.qos ≡ f.qos → p.retain ≡ f.retain → first_byte (head_of (packets.Publish p)) ≡ first_of f
unfolding head_of
first_same p f d q r = rw (d, q, r) (omega arith)

spelled_as : (p : Publish) (f : PublishFlags) (body : List ℕ) → p.dup ≡ f.dup → p.qos ≡ f.qos → p.retain ≡ f.retain → body_bytes (packets.Publish p) ≡ body → fives.written (packets.Publish p) ≡ wide_bytes (first_of f) body
unfolding fives.written
spelled_as p f body d q r is =
    ap (λ (first : ℕ). wide_bytes first (body_bytes (packets.Publish p))) (first_same p f d q r) ∙ ap (wide_bytes (first_of f)) is

-- it is sound
valid_then : (a e : Bool) → (a && not e) ≡ true → (a && (not e || false)) ≡ true
valid_then true true h = h
valid_then true false h = h
valid_then false e h = h

begins_as : (p : Publish) (f : PublishFlags) → p.dup ≡ f.dup → p.qos ≡ f.qos → IsTrue (is_allowed (flags_of (begun f))) → IsTrue (is_allowed (flags_of p))
begins_as p f d q h = rw (d, q) h

sound_as : (p : Publish) (f : PublishFlags) (body : List ℕ) → p.dup ≡ f.dup → p.qos ≡ f.qos → BodyFits (packets.Publish p) → body_bytes (packets.Publish p) ≡ body → IsTrue (is_allowed (flags_of (begun f))) → length body < 2 ^ 28 → IsSound (packets.Publish p)
unfolding head_of
sound_as p f body d q fits is allowed short = record { begins = begins_as p f d q allowed; fits = fits; short = omega (arith, ap length is) }

topic_fits : (bs topic rest : List ℕ) → IsBytes bs → field_at text bs ≡ Ok (topic, rest) → text.Fits topic
topic_fits bs topic rest fits e = (text_is.takes bs (topic, rest) fits (field_ok (text.at bs) (topic, rest) e)).1

number_fits : (bs : List ℕ) (n : ℕ) (rest : List ℕ) → IsBytes bs → field_at (number w16) bs ≡ Ok (n, rest) → (number w16).Fits n
number_fits bs n rest fits e = ((number_is w16 wide16).takes bs (n, rest) fits (field_ok ((number w16).at bs) (n, rest) e)).1

fits_once : (d r : Bool) (topic payload : List ℕ) → text.Fits topic → is_valid_before (flags d levels.AtMostOnce r) topic 0 ≡ true → BodyFits (packets.Publish (told_of d levels.AtMostOnce r topic 0 payload))
unfolding BodyFits five.publish
fits_once d r topic payload t valid = (((t, (refl, (none_fits, tt))), refl), valid_then true (length topic == 0) valid)

fits_least : (d r : Bool) (topic payload : List ℕ) (n : ℕ) → text.Fits topic → (number w16).Fits n → is_valid_before (flags d levels.AtLeastOnce r) topic n ≡ true → BodyFits (packets.Publish (told_of d levels.AtLeastOnce r topic n payload))
unfolding BodyFits five.publish
fits_least d r topic payload n t i valid = (((t, (i, (none_fits, tt))), refl), valid_then (not (n == 0)) (length topic == 0) valid)

fits_exact : (d r : Bool) (topic payload : List ℕ) (n : ℕ) → text.Fits topic → (number w16).Fits n → is_valid_before (flags d levels.ExactlyOnce r) topic n ≡ true → BodyFits (packets.Publish (told_of d levels.ExactlyOnce r topic n payload))
unfolding BodyFits five.publish
fits_exact d r topic payload n t i valid = (((t, (i, (none_fits, tt))), refl), valid_then (not (n == 0)) (length topic == 0) valid)

-- the parts were found one after the other
abbrev Parts : Type 0
Parts = List ℕ × ℕ × List ℕ

abbrev after_identifier : PublishFlags → List ℕ → List ℕ × List ℕ → ℕ × List ℕ → Result Parts PacketFault
after_identifier f bs t i = widened_if (is_valid_before f t.0 i.0) (take (length bs - length i.1) bs) i.0 i.1

abbrev after_topic : PublishFlags → List ℕ → List ℕ × List ℕ → Result Parts PacketFault
after_topic f bs t = identifier_at f t.1 >>= λ i. after_identifier f bs t i

record Found (f : PublishFlags) (bs : List ℕ) (x : Parts) : Type 0 where
  topic : List ℕ
  between : List ℕ
  identifier : ℕ
  payload : List ℕ
  topic_is : field_at text bs ≡ Ok (topic, between)
  identifier_is : identifier_at f between ≡ Ok (identifier, payload)
  valid : is_valid_before f topic identifier ≡ true
  same : ◌≡◌ {A = Parts} (take (length bs - length payload) bs, identifier, payload) x

found_of : (f : PublishFlags) (bs : List ℕ) (x : Parts) → widened_at f bs ≡ Ok x → Found f bs x
unfolding widened_at
found_of f bs x e =
    let t = bind_ok (field_at text bs) (after_topic f bs) x e in
    let i = bind_ok (identifier_at f t.0.1) (after_identifier f bs t.0) x t.2 in
    let front : List ℕ = take (length bs - length i.0.1) bs in
    let parts : Parts = (front, i.0.0, i.0.1) in
    let g = guard_passed (is_valid_before f t.0.0 i.0.0) ProtocolError parts x i.2 in
    record { topic = t.0.0; between = t.0.1; identifier = i.0.0; payload = i.0.1; topic_is = t.1; identifier_is = i.1; valid = g.0; same = g.1 }

abbrev IsRead : PublishFlags → List ℕ → Parts → Type 0
IsRead f bs x = IsWideOf f bs x.0 x.1 x.2

read_case : (d : Bool) (q : Qos) (r : Bool) (bs : List ℕ) (x : Parts) → IsBytes bs → Found (flags d q r) bs x → IsRead (flags d q r) bs x
read_case d levels.AtMostOnce r bs x fits h =
    let f : PublishFlags = flags d levels.AtMostOnce r in
    let same : ◌≡◌ {A = ℕ × List ℕ} (0, h.between) (h.identifier, h.payload) = ok_is _ _ h.identifier_is in
    let zero_is : 0 ≡ h.identifier = ap (λ (y : ℕ × List ℕ). y.0) same in
    let none : h.between ≡ h.payload = ap (λ (y : ℕ × List ℕ). y.1) same in
    let t_at : field_at text bs ≡ Ok (h.topic, h.payload) = h.topic_is ∙ ap (λ (xs : List ℕ). Ok (h.topic, xs)) none in
    let valid : is_valid_before f h.topic 0 ≡ true = h.valid in
    let told : Publish = told_of d levels.AtMostOnce r h.topic 0 h.payload in
    let body = wide_once d r h.topic h.payload 0 ∙ wide_same bs h.topic [] h.between h.payload (topic_takes bs h.topic h.between fits h.topic_is) none in
    subst (IsRead f bs) h.same
    (record {
      told = told;
      read = read_once d r bs h.topic h.payload t_at valid;
      same_qos = refl;
      same_identifier = sym zero_is;
      sound = λ allowed short. sound_as told f _ refl refl (fits_once d r h.topic h.payload (topic_fits bs h.topic h.between fits h.topic_is) valid) body allowed short;
      spelled = spelled_as told f _ refl refl refl body;
    })
read_case d levels.AtLeastOnce r bs x fits h =
    let f : PublishFlags = flags d levels.AtLeastOnce r in
    let one : bs ≡ text.bytes h.topic ++ h.between = topic_takes bs h.topic h.between fits h.topic_is in
    let more : IsBytes h.between = IsBytes-after bs (text.bytes h.topic) h.between fits one in
    let told : Publish = told_of d levels.AtLeastOnce r h.topic h.identifier h.payload in
    let body = wide_least d r h.topic h.payload h.identifier ∙ wide_same bs h.topic (to_be_bytes w16 h.identifier) h.between h.payload one (number_takes h.between h.identifier h.payload more h.identifier_is) in
    let t_fits : text.Fits h.topic = topic_fits bs h.topic h.between fits h.topic_is in
    let i_fits : (number w16).Fits h.identifier = number_fits h.between h.identifier h.payload more h.identifier_is in
    subst (IsRead f bs) h.same
    (record {
      told = told;
      read = read_least d r bs h.topic h.between h.identifier h.payload h.topic_is h.identifier_is h.valid;
      same_qos = refl;
      same_identifier = refl;
      sound = λ allowed short. sound_as told f _ refl refl (fits_least d r h.topic h.payload h.identifier t_fits i_fits h.valid) body allowed short;
      spelled = spelled_as told f _ refl refl refl body;
    })
read_case d levels.ExactlyOnce r bs x fits h =
    let f : PublishFlags = flags d levels.ExactlyOnce r in
    let one : bs ≡ text.bytes h.topic ++ h.between = topic_takes bs h.topic h.between fits h.topic_is in
    let more : IsBytes h.between = IsBytes-after bs (text.bytes h.topic) h.between fits one in
    let told : Publish = told_of d levels.ExactlyOnce r h.topic h.identifier h.payload in
    let body = wide_exact d r h.topic h.payload h.identifier ∙ wide_same bs h.topic (to_be_bytes w16 h.identifier) h.between h.payload one (number_takes h.between h.identifier h.payload more h.identifier_is) in
    let t_fits : text.Fits h.topic = topic_fits bs h.topic h.between fits h.topic_is in
    let i_fits : (number w16).Fits h.identifier = number_fits h.between h.identifier h.payload more h.identifier_is in
    subst (IsRead f bs) h.same
    (record {
      told = told;
      read = read_exact d r bs h.topic h.between h.identifier h.payload h.topic_is h.identifier_is h.valid;
      same_qos = refl;
      same_identifier = refl;
      sound = λ allowed short. sound_as told f _ refl refl (fits_exact d r h.topic h.payload h.identifier t_fits i_fits h.valid) body allowed short;
      spelled = spelled_as told f _ refl refl refl body;
    })

pub wide_is : (f : PublishFlags) (bs front : List ℕ) (identifier : ℕ) (payload : List ℕ) → IsBytes bs → widened_at f bs ≡ Ok (front, identifier, payload) → IsWideOf f bs front identifier payload
wide_is f bs front identifier payload fits e = read_case f.dup f.qos f.retain bs (front, identifier, payload) fits (found_of f bs (front, identifier, payload) e)

pub widened_is : (limit : ℕ) (f : PublishFlags) (bs body rest front : List ℕ) (identifier : ℕ) (payload : List ℕ) (x : FrontPublish) (old new : List ℕ) → HasPublish bs f body rest → IsWideOf f body front identifier payload
    → length bs - length rest ≤ limit → length front + 1 + length payload < 2 ^ 28 → x.used ≡ length bs - length rest → x.qos ≡ f.qos → x.identifier ≡ identifier → new ≡ old ++ wide_bytes (first_of f) (wide_body front payload)
    → IsWidened limit bs x old new
widened_is limit f bs body rest front identifier payload x old new has wide within short used_is qos_is identifier_is is =
    let len : length (wide_body front payload) < 2 ^ 28 = omega (arith, length-append front (0 ∷ payload)) in
    record {
      told = wide.told;
      fits = omega arith;
      found = λ level. has.found wide.told wide.read limit within level ∙ ap (λ (xs : List ℕ). Ok (Some (packets.Publish wide.told, xs))) (has.last.1 ∙ ap (λ (k : ℕ). drop k bs) (sym used_is));
      same_qos = qos_is ∙ wide.same_qos;
      same_identifier = identifier_is ∙ wide.same_identifier;
      has_spelling = spelling_of (packets.Publish wide.told) (wide.sound has.allowed len);
      appended = is ∙ ap (λ (xs : List ℕ). old ++ xs) (sym wide.spelled);
    }
