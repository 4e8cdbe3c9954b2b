-- A PUBLISH of MQTT 5.0 in front of some bytes, and what a client of an earlier version is sent of it.
use Rattle.std.specs.Prelude.{◌≡◌, ◌≤◌, ℕ, ◌+◌, ◌-◌, ◌*◌, ◌==◌, not, ◌&&◌, ◌||◌, Bool, List, [], ◌++◌, length, take, drop, Some, Result, Ok, Err, if◌then◌else◌}
use Rattle.std.specs.Int.{w16}
use Rattle.std.specs.List.{list_all}
use Rattle.mqtt_fields.specs.declared.value.Property.{Property}
use Rattle.mqtt_fields.specs.Reading.{◌>>=◌}
use Rattle.mqtt_fields.specs.Identifier.{topic_alias}
use Rattle.mqtt_fields.specs.Options.{qos_number}
use Rattle.mqtt_fields.specs.Numbers.{number, text}
use Rattle.mqtt_fields.specs.Block.{properties}
use Rattle.mqtt_fields.specs.declared.table.Place.TheVariants as places
use Rattle.mqtt_packets.specs.declared.fault.PacketFault.{PacketFault}
use Rattle.mqtt_packets.specs.declared.fault.PacketFault.TheVariants.{ProtocolError}
use Rattle.mqtt_packets.specs.declared.packet.Packet.TheVariants as packets
use Rattle.mqtt_packets.specs.declared.publish.Publish.{Publish}
use Rattle.mqtt_packets.specs.Head.{bit, is_at_most_once}
use Rattle.mqtt_packets.specs.Publish.{flags_of}
use Rattle.mqtt_packets.specs.Publish as five
use Rattle.mqtt_packets.specs.Stream.{packet_at}
use Rattle.mqtt_packets.specs.Reading.{field_at}
use Rattle.mqtt_packets.specs.Values.{are_valid, has}
use Rattle.mqtt3_packets.specs.declared.level.Level.{Level}
use Rattle.mqtt3_packets.specs.declared.publish.PublishFlags.{PublishFlags}
use Rattle.mqtt3_packets.specs.Bodies.{publish_of}
use Rattle.mqtt3_packets.specs.Written.{framed, publish_bytes, written}

abbrev pub has_no_zero : List ℕ → Bool
has_no_zero bs = list_all (λ b. not (b == 0)) bs

-- a PUBLISH of which nothing is known but what its first byte says
abbrev pub begun : PublishFlags → Publish
begun f = publish_of f ([], (0, []))

abbrev pub first_of : PublishFlags → ℕ
first_of f = 0x30 + 8 * bit f.dup + 2 * qos_number f.qos + bit f.retain

-- a PUBLISH may have these fields (MQTT 5.0, 3.3)
abbrev pub is_valid_with : PublishFlags → List ℕ → ℕ → List Property → Bool
is_valid_with f topic identifier ps = (is_at_most_once f.qos || not (identifier == 0)) && (are_valid ps && (not (length topic == 0) || has topic_alias ps))

-- the identifier that stands in front of some bytes, if one does
abbrev pub identifier_at : PublishFlags → List ℕ → Result (ℕ × List ℕ) PacketFault
identifier_at f bs = if is_at_most_once f.qos then Ok (0, bs) else field_at (number w16) bs

abbrev pub kept_if : Bool → List ℕ → List ℕ → Result (List ℕ × List ℕ) PacketFault
kept_if valid front payload = if valid then Ok (front, payload) else Err ProtocolError

-- the parts of a PUBLISH's body that stand before and behind its properties
unfoldable pub parts_at : PublishFlags → List ℕ → Result (List ℕ × List ℕ) PacketFault
parts_at f bs =
    field_at text bs >>= λ t. identifier_at f t.1 >>= λ i. field_at (properties places.Publish) i.1 >>= λ p.
    kept_if (is_valid_with f t.0 i.0 p.0) (take (length bs - length i.1) bs) p.1

-- the bytes that are sent of a PUBLISH with this body
pub record IsMadeOf (f : PublishFlags) (body front payload : List ℕ) : Type 0 where
  pub publish : Publish
  pub read : (five.publish (flags_of (begun f))).of body ≡ Ok publish
  pub made : publish_bytes publish ≡ framed (first_of f) (front ++ payload)

-- a PUBLISH with these flags and this body stands in front, and this follows it
abbrev pub HasBody : List ℕ → PublishFlags → List ℕ → List ℕ → Type 0
HasBody bs f body rest = (p : Publish) → (five.publish (flags_of (begun f))).of body ≡ Ok p → packet_at bs ≡ Ok (Some (packets.Publish p, rest))

-- a PUBLISH stands in front and takes so many of the bytes, and what tells of it stands behind what was there
pub record IsPassed (bs : List ℕ) (used : ℕ) (old new : List ℕ) : Type 0 where
  pub publish : Publish
  pub fits : used ≤ length bs
  pub found : packet_at bs ≡ Ok (Some (packets.Publish publish, drop used bs))
  pub sent : (level : Level) → new ≡ old ++ written level (packets.Publish publish)
