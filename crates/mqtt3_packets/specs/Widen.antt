-- A PUBLISH of a client in front of some bytes, and the PUBLISH of MQTT 5.0 that tells the same: it has an empty property block behind its topic and identifier.
use Rattle.std.specs.Prelude.{◌≡◌, ◌<◌, ◌≤◌, ◌^◌, ℕ, ◌-◌, ◌==◌, not, ◌&&◌, ◌||◌, Bool, List, ◌∷◌, ◌++◌, length, take, drop, Some, Result, Ok, Err, if◌then◌else◌, IsTrue}
use Rattle.mqtt_fields.specs.Reading.{◌>>=◌}
use Rattle.mqtt_fields.specs.Numbers.{text, vbi}
use Rattle.mqtt_packets.specs.declared.fault.PacketFault.{PacketFault}
use Rattle.mqtt_packets.specs.declared.fault.PacketFault.TheVariants.{ProtocolError}
use Rattle.mqtt_packets.specs.declared.packet.Packet.TheVariants as packets
use Rattle.mqtt_packets.specs.declared.publish.Publish.{Publish}
use Rattle.mqtt_packets.specs.Head.{is_allowed, is_at_most_once}
use Rattle.mqtt_packets.specs.Publish.{flags_of}
use Rattle.mqtt_packets.specs.Reading.{field_at}
use Rattle.mqtt_packets.specs.Written.{HasSpelling, IsSound}
use Rattle.mqtt_packets.specs.Written as five
use Rattle.mqtt3_packets.specs.declared.level.Level.{Level}
use Rattle.mqtt3_packets.specs.declared.packet.Kind.TheVariants as kinds
use Rattle.mqtt3_packets.specs.declared.publish.PublishFlags.{PublishFlags}
use Rattle.mqtt3_packets.specs.declared.widen.FrontPublish.{FrontPublish}
use Rattle.mqtt3_packets.specs.Bodies.{publish}
use Rattle.mqtt3_packets.specs.Cut.{begun, first_of, identifier_at}
use Rattle.mqtt3_packets.specs.Kinds.{kind_of}
use Rattle.mqtt3_packets.specs.Stream.{IsRest, packet_at}

-- a client's first byte says that a PUBLISH with these flags follows, at either level
pub record IsPublishHead (b : ℕ) (f : PublishFlags) : Type 0 where
  pub allowed : IsTrue (is_allowed (flags_of (begun f)))
  pub kind : (level : Level) → kind_of level b ≡ Some (kinds.Publish f)

-- a client's PUBLISH with these flags and this body stands in front, and this follows it
pub record HasPublish (bs : List ℕ) (f : PublishFlags) (body rest : List ℕ) : Type 0 where
  pub allowed : IsTrue (is_allowed (flags_of (begun f)))
  pub last : IsRest bs rest
  pub found : (p : Publish) → (publish f).of body ≡ Ok p → (limit : ℕ) → length bs - length rest ≤ limit → (level : Level) → packet_at level limit bs ≡ Ok (Some (packets.Publish p, rest))

-- a client's PUBLISH may have these fields (MQTT 3.1.1, 3.3)
abbrev pub is_valid_before : PublishFlags → List ℕ → ℕ → Bool
is_valid_before f topic identifier = (is_at_most_once f.qos || not (identifier == 0)) && not (length topic == 0)

abbrev pub widened_if : Bool → List ℕ → ℕ → List ℕ → Result (List ℕ × ℕ × List ℕ) PacketFault
widened_if valid front identifier payload = if valid then Ok (front, identifier, payload) else Err ProtocolError

-- what stands before the payload of a PUBLISH's body, the identifier in it, and the payload
unfoldable pub widened_at : PublishFlags → List ℕ → Result (List ℕ × ℕ × List ℕ) PacketFault
widened_at f bs =
    field_at text bs >>= λ t. identifier_at f t.1 >>= λ i.
    widened_if (is_valid_before f t.0 i.0) (take (length bs - length i.1) bs) i.0 i.1

-- the byte 0 between them is an empty property block (MQTT 5.0, 2.2.2)
abbrev pub wide_body : List ℕ → List ℕ → List ℕ
wide_body front payload = front ++ 0 ∷ payload

abbrev pub wide_bytes : ℕ → List ℕ → List ℕ
wide_bytes first body = first ∷ vbi.bytes (length body) ++ body

-- a PUBLISH with this body, and how it is spelled in MQTT 5.0
pub record IsWideOf (f : PublishFlags) (body front : List ℕ) (identifier : ℕ) (payload : List ℕ) : Type 0 where
  pub told : Publish
  pub read : (publish f).of body ≡ Ok told
  pub same_qos : f.qos ≡ told.qos
  pub same_identifier : identifier ≡ told.identifier
  pub sound : IsTrue (is_allowed (flags_of (begun f))) → length (wide_body front payload) < 2 ^ 28 → IsSound (packets.Publish told)
  pub spelled : five.written (packets.Publish told) ≡ wide_bytes (first_of f) (wide_body front payload)

-- a client's PUBLISH stands in front, and the PUBLISH of MQTT 5.0 that tells the same stands behind what was there
pub record IsWidened (limit : ℕ) (bs : List ℕ) (x : FrontPublish) (old new : List ℕ) : Type 0 where
  pub told : Publish
  pub fits : x.used ≤ length bs
  pub found : (level : Level) → packet_at level limit bs ≡ Ok (Some (packets.Publish told, drop x.used bs))
  pub same_qos : x.qos ≡ told.qos
  pub same_identifier : x.identifier ≡ told.identifier
  pub has_spelling : HasSpelling (packets.Publish told)
  pub appended : new ≡ old ++ five.written (packets.Publish told)
