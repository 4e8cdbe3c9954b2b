use Rattle.mqtt_access.proofs.Reading.{subscribers_may_read}
use Rattle.mqtt_access.proofs.laws.subscribers_may_read.Goals as goal

pub returns : goal.returns
returns c = subscribers_may_read
