-- The bytes of messages and deliveries.
use Rattle.std.specs.Prelude.{ℕ, List, Bool}
use Rattle.mqtt_fields.specs.declared.options.Qos.{Qos}
use Rattle.mqtt_fields.specs.declared.value.Property.{Property}
use Rattle.mqtt_fields.specs.Field.{Field, after, seen}
use Rattle.mqtt_message.specs.declared.message.Message.{Message}
use Rattle.mqtt_message.specs.declared.delivery.Delivery.{Delivery}
use Rattle.mqtt_message.specs.Spelling.{flag}
use Rattle.mqtt_message.specs.Parts.{name, payload, own_properties, qos, TailParts, tail, identifiers}

-- topic, payload, properties, QoS, RETAIN, publisher, deadline
abbrev pub MessageParts : Type 0
MessageParts = List ℕ × (List ℕ × (List Property × TailParts))

abbrev pub message_of : MessageParts → Message
message_of x = record {
  topic = x.0;
  payload = x.1.0;
  properties = x.1.1.0;
  qos = x.1.1.1.0;
  retain = x.1.1.1.1.0;
  publisher = x.1.1.1.1.1.0;
  deadline = x.1.1.1.1.1.1;
}

abbrev pub message_tail : Message → TailParts
message_tail m = (m.qos, (m.retain, (m.publisher, m.deadline)))

abbrev pub message_parts : Message → MessageParts
message_parts m = (m.topic, (m.payload, (m.properties, message_tail m)))

unfoldable pub message : Field Message
message = seen message_of message_parts (after name (λ _. after payload (λ _. after own_properties (λ _. tail))))

-- a message, and how one client gets it: QoS, RETAIN, Subscription Identifiers
abbrev pub DeliveryParts : Type 0
DeliveryParts = Message × (Qos × (Bool × List ℕ))

abbrev pub delivery_of : DeliveryParts → Delivery
delivery_of x = record { message = x.0; qos = x.1.0; retain = x.1.1.0; identifiers = x.1.1.1 }

abbrev pub delivery_parts : Delivery → DeliveryParts
delivery_parts d = (d.message, (d.qos, (d.retain, d.identifiers)))

unfoldable pub delivery : Field Delivery
delivery = seen delivery_of delivery_parts (after message (λ _. after qos (λ _. after flag (λ _. identifiers))))
