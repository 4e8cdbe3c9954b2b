use Rattle.mqtt_access.proofs.Exact.{meets_some_matched}
use Rattle.mqtt_access.proofs.laws.meets_some_matched.Goals as goal

pub returns : goal.returns
returns c = meets_some_matched
