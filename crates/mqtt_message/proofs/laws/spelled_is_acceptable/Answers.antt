use Rattle.mqtt_message.proofs.AcceptLaws.{spelled_is_acceptable}
use Rattle.mqtt_message.proofs.laws.spelled_is_acceptable.Goals as goal

pub returns : goal.returns
returns c = spelled_is_acceptable
