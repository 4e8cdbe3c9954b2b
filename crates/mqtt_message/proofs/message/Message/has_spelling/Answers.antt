use Rattle.mqtt_message.specs.Spellings.{message}
use Rattle.mqtt_message.specs.Parts.{own_properties, tail}
use Rattle.mqtt_message.proofs.FitsLaws.{name_fits, payload_fits, qos_fits, flag_fits}
use Rattle.mqtt_message.proofs.message.Message.has_spelling.Goals as goal

pub returns : goal.returns
unfolding message own_properties tail
returns c = (
  name_fits c.args.self.now.topic c.as_str-topic.ensures.name,
  (
    payload_fits c.args.self.now.payload c.as_slice-payload.ensures.fits,
    (
      (c.as_slice-properties.ensures.own.fits, c.as_slice-properties.ensures.own.each),
      (qos_fits c.args.self.now.qos, (flag_fits c.args.self.now.retain, (c.as_str-publisher.ensures.fits, c.has_spelling.ensures))),
    ),
  ),
)
