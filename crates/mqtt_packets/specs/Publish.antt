-- PUBLISH (MQTT 5.0, 3.3).
use Rattle.std.specs.Prelude.{ℕ, ◌==◌, not, ◌&&◌, ◌||◌, Bool, List, length}
use Rattle.std.specs.Int.{w16}
use Rattle.mqtt_fields.specs.declared.value.Property.{Property}
use Rattle.mqtt_fields.specs.declared.table.Place.TheVariants as places
use Rattle.mqtt_fields.specs.Numbers.{number, text}
use Rattle.mqtt_fields.specs.Identifier.{topic_alias}
use Rattle.mqtt_fields.specs.Block.{properties}
use Rattle.mqtt_packets.specs.declared.fault.PacketFault.TheVariants.{ProtocolError}
use Rattle.mqtt_packets.specs.declared.head.PublishFlags.{PublishFlags}
use Rattle.mqtt_packets.specs.declared.publish.Publish.{Publish}
use Rattle.mqtt_packets.specs.Body.{Body, payload, then_, where_, valid, as_}
use Rattle.mqtt_packets.specs.Values.{has, are_valid}
use Rattle.mqtt_packets.specs.Head.{is_at_most_once}

abbrev pub flags_of : Publish → PublishFlags
flags_of p = record { dup = p.dup; qos = p.qos; retain = p.retain }

abbrev pub publish_of : PublishFlags → List ℕ × (ℕ × (List Property × List ℕ)) → Publish
publish_of f x = record { dup = f.dup; qos = f.qos; retain = f.retain; topic = x.0; identifier = x.1.0; properties = x.1.1.0; payload = x.1.1.1 }

abbrev pub publish_parts : Publish → List ℕ × (ℕ × (List Property × List ℕ))
publish_parts p = (p.topic, (p.identifier, (p.properties, p.payload)))

-- an identifier that stands there isn't 0, and an empty topic needs a Topic Alias (MQTT 5.0, 3.3.2.1)
abbrev pub is_valid_publish : Publish → Bool
is_valid_publish p = (is_at_most_once p.qos || not (p.identifier == 0)) && (are_valid p.properties && (not (length p.topic == 0) || has topic_alias p.properties))

-- an identifier stands at QoS 1 and 2 alone
unfoldable pub publish : PublishFlags → Body Publish
publish f = valid is_valid_publish ProtocolError (as_ (publish_of f) publish_parts
    (then_ text (λ _. where_ (not (is_at_most_once f.qos)) 0 (number w16) (then_ (properties places.Publish) (λ _. payload)))))
