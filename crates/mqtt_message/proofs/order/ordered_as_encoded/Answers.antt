use Rattle.mqtt_message.proofs.EncodingLaws.{encodings_compare}
use Rattle.mqtt_message.proofs.order.ordered_as_encoded.Goals as goal

pub returns : goal.returns
returns c = encodings_compare
