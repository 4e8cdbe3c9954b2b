use Rattle.std.proofs.Common.{ap, length, ◌∙◌}
use Rattle.mqtt_message.specs.declared.message.Message.{Message}
use Rattle.mqtt_message.specs.Sent.{sent}
use Rattle.mqtt_message.proofs.SentLaws.{parts_len}
use Rattle.mqtt_message.proofs.delivery.Delivery.body_len.Goals as goal

pub returns-clause-exact : goal.returns-clause-exact
returns-clause-exact c = λ dup identifier.
    parts_len (sent c.args.self.now c.args.now dup identifier) (length c.as_str.result.now) c.identifier_len.result c.vbi_len.result c.properties_len-properties.result (length c.as_slice.result.now)
    (ap length (c.as_str.ensures.same ∙ ap (λ (m : Message). m.topic) c.message-message.ensures)) c.identifier_len.ensures c.properties_len-properties.ensures.exact c.vbi_len.ensures.exact (ap length (c.as_slice.ensures.same ∙ ap (λ (m : Message). m.payload) c.message-message.ensures))
