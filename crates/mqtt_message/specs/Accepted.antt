-- The message that a server makes of a PUBLISH or of a will.
use Rattle.std.specs.Prelude.{ℕ, ◌<◌, ◌^◌, List, length}
use Rattle.mqtt_fields.specs.Properties.{first_four}
use Rattle.mqtt_fields.specs.declared.table.Place.TheVariants as places
use Rattle.mqtt_packets.specs.declared.publish.Publish.{Publish}
use Rattle.mqtt_packets.specs.declared.connect.Will.{Will}
use Rattle.mqtt_topics.specs.Topics.{IsName}
use Rattle.mqtt_message.specs.declared.message.Message.{Message}
use Rattle.mqtt_message.specs.OwnProperties.{own, IsAllowed}
use Rattle.mqtt_message.specs.Expiry.{deadline_after}

-- a PUBLISH of which a message can be made
pub record IsAcceptable (p : Publish) : Type 0 where
  pub name : IsName p.topic
  pub properties : IsAllowed places.Publish p.properties
  pub payload : length p.payload < 2 ^ 28

-- the message of a PUBLISH: it expires one Message Expiry Interval after it was accepted
abbrev pub accepted : Publish → List ℕ → ℕ → Message
accepted p publisher now = record {
  topic = p.topic;
  payload = p.payload;
  properties = own p.properties;
  qos = p.qos;
  retain = p.retain;
  publisher = publisher;
  deadline = deadline_after now (first_four 2 p.properties);
}

-- a will of which a message can be made
pub record IsPublishable (w : Will) : Type 0 where
  pub name : IsName w.topic
  pub properties : IsAllowed places.Will w.properties

-- the message of a will
abbrev pub accepted_will : Will → List ℕ → ℕ → Message
accepted_will w publisher now = record {
  topic = w.topic;
  payload = w.payload;
  properties = own w.properties;
  qos = w.qos;
  retain = w.retain;
  publisher = publisher;
  deadline = deadline_after now (first_four 2 w.properties);
}
