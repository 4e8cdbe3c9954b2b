-- What holds of all messages and deliveries.
use Rattle.std.specs.Prelude.{ℕ, List, Bool, ◌↔◌}
use Rattle.mqtt_fields.specs.Field.{IsField}
use Rattle.mqtt_packets.specs.declared.publish.Publish.{Publish}
use Rattle.mqtt_packets.specs.declared.packet.Packet.TheVariants as packets
use Rattle.mqtt_packets.specs.Written.{HasSpelling}
use Rattle.mqtt_topics.specs.Topics.{IsName}
use Rattle.mqtt_message.specs.declared.delivery.Delivery.{Delivery}
use Rattle.mqtt_message.specs.Accepted.{IsAcceptable}
use Rattle.mqtt_message.specs.Spellings.{message, delivery}
use Rattle.mqtt_message.specs.Sent.{sent, IsSentLength, IsSendable}

-- what is read is spelled so, and what is spelled so is read again, whatever follows
pub record ReadAsSpelled : Type 0 where
  pub messages : IsField message
  pub deliveries : IsField delivery

-- a message can be made of a PUBLISH that has a spelling, under any topic name
abbrev pub SpelledIsAcceptable : Type 0
SpelledIsAcceptable = (p : Publish) (topic : List ℕ) → HasSpelling (packets.Publish p) → IsName topic → IsAcceptable (record p { topic = topic })

-- The PUBLISH that sends a delivery has a spelling exactly where it may have its level, DUP flag, Packet Identifier and
-- length; nothing else that it carries stands in the way.
abbrev pub SentIsSpelled : Type 0
SentIsSpelled = (d : Delivery) (now n : ℕ) (dup : Bool) (identifier : ℕ) → delivery.Fits d → IsSentLength d now n
    → HasSpelling (packets.Publish (sent d now dup identifier)) ↔ IsSendable d.qos dup identifier n
