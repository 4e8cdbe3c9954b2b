-- How long a PUBLISH and its parts are.
use Rattle.std.proofs.Common.{◌≡◌, ℕ, suc, ◌+◌, List, ◌∷◌, ◌++◌, length, sym, ap, subst, zero-add, ◌∙◌, length-append, arith}
use Rattle.std.specs.Prelude.{not}
use Rattle.std.specs.Int.{w16, to_be_bytes}
use Rattle.std.proofs.lemmas.Grind.{flat_map-append}
use Rattle.mqtt_fields.specs.declared.value.Property.{Property}
use Rattle.mqtt_fields.specs.declared.table.Place.TheVariants as places
use Rattle.mqtt_fields.specs.declared.options.Qos.{Qos}
use Rattle.mqtt_fields.specs.declared.options.Qos.TheVariants.{AtMostOnce, AtLeastOnce, ExactlyOnce}
use Rattle.mqtt_fields.specs.Numbers.{number, text, vbi}
use Rattle.mqtt_fields.specs.Block.{property_bytes, properties_bytes, properties}
use Rattle.mqtt_fields.proofs.LengthLaws.{text_len}
use Rattle.mqtt_packets.specs.declared.publish.Publish.{Publish}
use Rattle.mqtt_packets.specs.declared.packet.Packet.TheVariants as packets
use Rattle.mqtt_packets.specs.Head.{is_at_most_once, first_byte}
use Rattle.mqtt_packets.specs.Body.{payload, then_, where_}
use Rattle.mqtt_packets.specs.Publish.{publish}
use Rattle.mqtt_packets.specs.Packet.{head_of, body_bytes}
use Rattle.mqtt_packets.specs.Written.{written}
use Rattle.mqtt_message.specs.Sent.{identifier_len}

abbrev pub block_len : List Property → ℕ
block_len ps = length (vbi.bytes (length (properties_bytes ps))) + length (properties_bytes ps)

length-three : (xs ys zs : List ℕ) → length ((xs ++ ys) ++ zs) ≡ (length xs + length ys) + length zs
length-three xs ys zs = length-append (xs ++ ys) zs ∙ ap (λ n. n + length zs) (length-append xs ys)

tail_len : (q : Qos) (identifier : ℕ) (ps : List Property) (bytes : List ℕ) → length ((where_ (not (is_at_most_once q)) 0 (number w16) (then_ (properties places.Publish) (λ _. payload))).bytes (identifier, (ps, bytes)))
    ≡ identifier_len q + (block_len ps + length bytes)
unfolding properties
tail_len AtMostOnce identifier ps bytes =
    length-three (vbi.bytes (length (properties_bytes ps))) (properties_bytes ps) bytes ∙ sym (zero-add (block_len ps + length bytes))
tail_len AtLeastOnce identifier ps bytes =
    length-append (to_be_bytes w16 identifier) ((vbi.bytes (length (properties_bytes ps)) ++ properties_bytes ps) ++ bytes)
    ∙ ap (λ n. 2 + n) (length-three (vbi.bytes (length (properties_bytes ps))) (properties_bytes ps) bytes)
tail_len ExactlyOnce identifier ps bytes =
    length-append (to_be_bytes w16 identifier) ((vbi.bytes (length (properties_bytes ps)) ++ properties_bytes ps) ++ bytes)
    ∙ ap (λ n. 2 + n) (length-three (vbi.bytes (length (properties_bytes ps))) (properties_bytes ps) bytes)

pub body_len : (p : Publish) → length (body_bytes (packets.Publish p)) ≡ 2 + length p.topic + (identifier_len p.qos + (block_len p.properties + length p.payload))
unfolding body_bytes publish
body_len p =
    let later = (where_ (not (is_at_most_once p.qos)) 0 (number w16) (then_ (properties places.Publish) (λ _. payload))).bytes (p.identifier, (p.properties, p.payload)) in
    length-append (text.bytes p.topic) later
    ∙ ap (λ n. length (text.bytes p.topic) + n) (tail_len p.qos p.identifier p.properties p.payload)
    ∙ ap (λ n. n + (identifier_len p.qos + (block_len p.properties + length p.payload))) (text_len p.topic)

one_more : (m n : ℕ) → suc m + n ≡ 1 + m + n
one_more m n = omega arith

pub written_len : (p : Publish) (n : ℕ) → length (body_bytes (packets.Publish p)) ≡ n → length (written (packets.Publish p)) ≡ 1 + length (vbi.bytes n) + n
unfolding written
written_len p n e =
    let body = body_bytes (packets.Publish p) in
    let Total : ℕ → Type 0 = λ k. length (written (packets.Publish p)) ≡ 1 + length (vbi.bytes k) + k in
    subst Total e (length-append (first_byte (head_of (packets.Publish p)) ∷ vbi.bytes (length body)) body ∙ one_more (length (vbi.bytes (length body))) (length body))

added : (t q v b l t' q' v' b' l' : ℕ) → t ≡ t' → q ≡ q' → v ≡ v' → b ≡ b' → l ≡ l' → 2 + t' + (q' + (v' + b' + l')) ≡ 2 + t + q + v + b + l
added t q v b l t' q' v' b' l' et eq ev eb el = omega arith

-- the length of a PUBLISH's body, of the lengths of its parts
pub parts_len : (p : Publish) (t q v b l : ℕ) → t ≡ length p.topic → q ≡ identifier_len p.qos → b ≡ length (properties_bytes p.properties) → v ≡ length (vbi.bytes b) → l ≡ length p.payload → 2 + t + q + v + b + l ≡ length (body_bytes (packets.Publish p))
parts_len p t q v b l et eq eb ev el =
    let block : v ≡ length (vbi.bytes (length (properties_bytes p.properties))) = ev ∙ ap (λ n. length (vbi.bytes n)) eb in
    sym (body_len p ∙ added t q v b l (length p.topic) (identifier_len p.qos) (length (vbi.bytes (length (properties_bytes p.properties)))) (length (properties_bytes p.properties)) (length p.payload) et eq block eb el)

-- the length of a PUBLISH, of its body's
pub publish_len : (p : Publish) (n w : ℕ) → n ≡ length (body_bytes (packets.Publish p)) → w ≡ length (vbi.bytes n) → 1 + w + n ≡ length (written (packets.Publish p))
publish_len p n w en ew = ap (λ k. 1 + k + n) ew ∙ sym (written_len p n (sym en))

pub properties_bytes-append : (ps qs : List Property) → length (properties_bytes (ps ++ qs)) ≡ length (properties_bytes ps) + length (properties_bytes qs)
properties_bytes-append ps qs = ap length (flat_map-append property_bytes ps qs) ∙ length-append (properties_bytes ps) (properties_bytes qs)
