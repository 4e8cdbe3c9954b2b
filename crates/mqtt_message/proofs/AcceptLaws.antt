-- A PUBLISH that has a spelling can be accepted.
use Rattle.std.proofs.Common.{◌≤◌, ◌<◌, ◌^◌, ℕ, ◌&&◌, ◌||◌, List, length, arith}
use Rattle.std.specs.Prelude.{not, ◌==◌}
use Rattle.std.specs.Int.{w16}
use Rattle.std.proofs.lemmas.Bool.{and_parts}
use Rattle.mqtt_fields.specs.declared.value.Property.{Property}
use Rattle.mqtt_fields.specs.declared.table.Place.TheVariants as places
use Rattle.mqtt_fields.specs.declared.options.Qos.{Qos}
use Rattle.mqtt_fields.specs.declared.options.Qos.TheVariants.{AtMostOnce, AtLeastOnce, ExactlyOnce}
use Rattle.mqtt_fields.specs.Numbers.{number}
use Rattle.mqtt_fields.specs.Block.{properties}
use Rattle.mqtt_packets.specs.declared.publish.Publish.{Publish}
use Rattle.mqtt_packets.specs.declared.packet.Packet.TheVariants as packets
use Rattle.mqtt_packets.specs.Head.{is_at_most_once}
use Rattle.mqtt_packets.specs.Values.{has, are_valid}
use Rattle.mqtt_packets.specs.Body.{payload, then_, where_}
use Rattle.mqtt_packets.specs.Publish.{publish, flags_of}
use Rattle.mqtt_packets.specs.Packet.{SpellsBody, body_bytes}
use Rattle.mqtt_packets.proofs.KindLaws.{publish_is}
use Rattle.mqtt_message.specs.OwnProperties.{IsAllowed}
use Rattle.mqtt_message.specs.Laws.{SpelledIsAcceptable}
use Rattle.mqtt_message.proofs.SentLaws.{body_len}

block_fits : (q : Qos) (identifier : ℕ) (ps : List Property) (bytes : List ℕ) → (where_ (not (is_at_most_once q)) 0 (number w16) (then_ (properties places.Publish) (λ _. payload))).Fits (identifier, (ps, bytes)) → (properties places.Publish).Fits ps
block_fits AtMostOnce identifier ps bytes fits = fits.1.0
block_fits AtLeastOnce identifier ps bytes fits = fits.1.0
block_fits ExactlyOnce identifier ps bytes fits = fits.1.0

pub record IsFitting (p : Publish) : Type 0 where
  pub properties : IsAllowed places.Publish p.properties
  pub payload : length p.payload < 2 ^ 28

fitting : (p : Publish) (inside : List ℕ) → length inside < 2 ^ 28 → (publish (flags_of p)).Spells inside p → IsFitting p
unfolding publish body_bytes
fitting p inside short spells =
    let fits = (publish_is (flags_of p)).fits inside p spells in
    let shortest : length (body_bytes (packets.Publish p)) ≤ length inside = (publish_is (flags_of p)).shortest inside p spells in
    let valid = and_parts (is_at_most_once p.qos || not (p.identifier == 0)) (are_valid p.properties && (not (length p.topic == 0) || has 35 p.properties)) fits.1 in
    record {
      properties = record {
        fits = block_fits p.qos p.identifier p.properties p.payload fits.0.0.1;
        valid = (and_parts (are_valid p.properties) (not (length p.topic == 0) || has 35 p.properties) valid.1).0;
      };
      payload = omega (arith, body_len p, shortest, short);
    }

pub spelled_is_acceptable : SpelledIsAcceptable
unfolding SpellsBody
spelled_is_acceptable p topic spelled named =
    let s = spelled.1 in
    let parts = fitting p s.inside s.short s.spells in
    record { name = named; properties = parts.properties; payload = parts.payload }
