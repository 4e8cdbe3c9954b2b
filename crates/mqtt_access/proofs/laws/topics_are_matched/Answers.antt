use Rattle.mqtt_access.proofs.Exact.{topics_are_matched}
use Rattle.mqtt_access.proofs.laws.topics_are_matched.Goals as goal

pub returns : goal.returns
returns c = topics_are_matched
