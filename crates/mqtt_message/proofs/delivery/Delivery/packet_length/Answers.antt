use Rattle.mqtt_message.specs.Sent.{sent}
use Rattle.mqtt_message.proofs.SentLaws.{publish_len}
use Rattle.mqtt_message.proofs.delivery.Delivery.packet_length.Goals as goal

pub returns : goal.returns
returns c = λ dup identifier.
    publish_len (sent c.args.self.now c.args.now dup identifier) c.body_len-body.result c.vbi_len.result (c.body_len-body.ensures.exact dup identifier) c.vbi_len.ensures.exact
