-- How long the packets are.
use Rattle.std.proofs.Common.{◌≡◌, ℕ, ◌+◌, Bool, true, false, List, ◌∷◌, ◌++◌, length, refl, ◌∙◌, arith, length-append}
use Rattle.std.specs.Prelude.{nat_le}
use Rattle.std.specs.Int.{w16}
use Rattle.std.proofs.lemmas.Bool.{leb-true, le-leb}
use Rattle.mqtt_fields.specs.declared.options.Qos.{Qos}
use Rattle.mqtt_fields.specs.declared.options.Qos.TheVariants.{AtMostOnce, AtLeastOnce, ExactlyOnce}
use Rattle.mqtt_fields.specs.declared.table.Place.TheVariants as places
use Rattle.mqtt_fields.specs.Numbers.{number, text, vbi}
use Rattle.mqtt_fields.specs.Block.{properties}
use Rattle.mqtt_packets.specs.declared.packet.Packet.{Packet}
use Rattle.mqtt_packets.specs.declared.packet.Packet.TheVariants as packets
use Rattle.mqtt_packets.specs.Head.{first_byte}
use Rattle.mqtt_packets.specs.Packet.{body_bytes, head_of}
use Rattle.mqtt_packets.specs.Publish.{publish}
use Rattle.mqtt_packets.specs.Written.{written}
use Rattle.mqtt_message.specs.declared.delivery.Delivery.{Delivery}
use Rattle.mqtt_message.specs.Sent.{sent, sent_properties}
use Rattle.qos_handshakes.specs.Length.{length_of}
use Rattle.mqtt_sessions.specs.Answers.{connack, pubrel, fits}
use Rattle.mqtt_sessions.specs.Lengths.{assigned_length}
use Rattle.mqtt_sessions.proofs.LengthLaws.{pubrel_length, connack_fit}

written-length : (p : Packet) → length (written p) ≡ 1 + length (vbi.bytes (length (body_bytes p))) + length (body_bytes p)
unfolding written
written-length p = omega (arith, length-append (first_byte (head_of p) ∷ vbi.bytes (length (body_bytes p))) (body_bytes p))

same-length : (p q : Packet) → length (body_bytes p) ≡ length (body_bytes q) → length (written p) ≡ length (written q)
same-length p q e = rw (written-length p, written-length q, e) refl

-- a PUBLISH is as long whatever its DUP flag and its identifier
same-body : (q : Qos) (d : Delivery) (now id : ℕ) (dup : Bool) → d.qos ≡ q → length (body_bytes (packets.Publish (sent d now dup id))) ≡ length (body_bytes (packets.Publish (sent d now false 0)))
unfolding body_bytes publish
same-body AtMostOnce d now id dup e = rw e refl
same-body AtLeastOnce d now id dup e =
    let more = (properties places.Publish).bytes (sent_properties d now) ++ d.message.payload in
    rw (e, length-append (text.bytes d.message.topic) ((number w16).bytes id ++ more), length-append (text.bytes d.message.topic) ((number w16).bytes 0 ++ more)) refl
same-body ExactlyOnce d now id dup e =
    let more = (properties places.Publish).bytes (sent_properties d now) ++ d.message.payload in
    rw (e, length-append (text.bytes d.message.topic) ((number w16).bytes id ++ more), length-append (text.bytes d.message.topic) ((number w16).bytes 0 ++ more)) refl

pub publish-length : (d : Delivery) (now id : ℕ) (dup : Bool) → length (written (packets.Publish (sent d now dup id))) ≡ length_of now d
unfolding length_of
publish-length d now id dup = same-length (packets.Publish (sent d now dup id)) (packets.Publish (sent d now false 0)) (same-body d.qos d now id dup refl)

-- where a CONNACK fits, a PUBREL does
pub pubrel-fits : (present : Bool) (given client : List ℕ) (limit id : ℕ) → fits limit (connack present given client) ≡ true → fits limit (pubrel id 0) ≡ true
pubrel-fits present given client limit id h =
    let n = 11 + assigned_length given client in
    let m = 2 + length (vbi.bytes n) + n in
    let t : nat_le (1 + length (vbi.bytes m) + m) limit ≡ true = connack_fit present given client limit n m refl refl ∙ h in
    let le = leb-true (1 + length (vbi.bytes m) + m) limit t in
    rw (pubrel_length id 0) (le-leb 4 limit (omega (arith, le)))
