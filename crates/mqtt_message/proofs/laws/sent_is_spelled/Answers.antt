use Rattle.mqtt_message.proofs.SendableLaws.{sent_is_spelled}
use Rattle.mqtt_message.proofs.laws.sent_is_spelled.Goals as goal

pub returns : goal.returns
returns c = sent_is_spelled
