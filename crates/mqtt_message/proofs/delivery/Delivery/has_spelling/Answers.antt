use Rattle.std.proofs.Common.{subst}
use Rattle.mqtt_message.specs.Spellings.{message, delivery}
use Rattle.mqtt_message.specs.Parts.{identifiers}
use Rattle.mqtt_message.proofs.FitsLaws.{qos_fits, flag_fits, numbers_fit}
use Rattle.mqtt_message.proofs.delivery.Delivery.has_spelling.Goals as goal

pub returns : goal.returns
unfolding delivery identifiers
returns c = (subst message.Fits c.message.ensures c.has_spelling.ensures, (qos_fits c.args.self.now.qos, (flag_fits c.args.self.now.retain, ((c.as_slice-identifiers.ensures.few, numbers_fit 1 c.args.self.now.identifiers c.as_slice-identifiers.ensures.identifiers), c.as_slice-identifiers.ensures.identifiers))))
