-- What a spelling says of the PUBLISH that is written.
use Rattle.std.proofs.Common.{◌≡◌, ℕ, ◌+◌, ◌<◌, ◌^◌, List, [], ◌∷◌, ◌++◌, length, ◌∙◌, append_assoc}
use Rattle.std.specs.Prelude.{not}
use Rattle.std.specs.Int.{w16}
use Rattle.mqtt_fields.specs.declared.options.Qos.{Qos}
use Rattle.mqtt_fields.specs.declared.options.Qos.TheVariants.{AtMostOnce, AtLeastOnce, ExactlyOnce}
use Rattle.mqtt_fields.specs.declared.value.Property.{Property}
use Rattle.mqtt_fields.specs.declared.table.Place.TheVariants as places
use Rattle.mqtt_fields.specs.Numbers.{number, vbi}
use Rattle.mqtt_fields.specs.Block.{properties}
use Rattle.mqtt_packets.specs.declared.publish.Publish.{Publish}
use Rattle.mqtt_packets.specs.declared.packet.Packet.TheVariants as packets
use Rattle.mqtt_packets.specs.Head.{is_at_most_once, publish_flags}
use Rattle.mqtt_packets.specs.Body.{payload, then_, where_}
use Rattle.mqtt_packets.specs.Publish.{publish, flags_of}
use Rattle.mqtt_packets.specs.Packet.{head_of, body_bytes, BodyFits}
use Rattle.mqtt_packets.specs.Written.{written, HasSpelling}
use Rattle.mqtt_packets.proofs.WrittenLaws.{sound_of}

-- the body of a packet that has a spelling is short
pub sent_short : (p : Publish) → HasSpelling (packets.Publish p) → length (body_bytes (packets.Publish p)) < 2 ^ 28
sent_short p h = (sound_of (packets.Publish p) h).short

tail_properties : (q : Qos) (identifier : ℕ) (ps : List Property) (bytes : List ℕ) → (where_ (not (is_at_most_once q)) 0 (number w16) (then_ (properties places.Publish) (λ _. payload))).Fits (identifier, (ps, bytes)) → (properties places.Publish).Fits ps
tail_properties AtMostOnce identifier ps bytes fits = fits.1.0
tail_properties AtLeastOnce identifier ps bytes fits = fits.1.0
tail_properties ExactlyOnce identifier ps bytes fits = fits.1.0

-- and its properties may stand in it
pub sent_fits : (p : Publish) → HasSpelling (packets.Publish p) → (properties places.Publish).Fits p.properties
unfolding BodyFits publish
sent_fits p h = tail_properties p.qos p.identifier p.properties p.payload (sound_of (packets.Publish p) h).fits.0.0.1

-- a first byte, Remaining Length and body, one after another, are the whole packet
pub joined : (p : Publish) (n : ℕ) (start begun sized whole : List ℕ) → begun ≡ start ++ (0x30 + publish_flags (flags_of p)) ∷ [] → n ≡ length (body_bytes (packets.Publish p)) → sized ≡ begun ++ vbi.bytes n
    → whole ≡ sized ++ body_bytes (packets.Publish p) → whole ≡ start ++ written (packets.Publish p)
unfolding written head_of
joined p n start begun sized whole eb en es ew =
    let first = (0x30 + publish_flags (flags_of p)) ∷ [] in
    let body = body_bytes (packets.Publish p) in
    let size = vbi.bytes (length body) in
    rw (ew, es, eb, en) (append_assoc (start ++ first) size body ∙ append_assoc start first (size ++ body))
