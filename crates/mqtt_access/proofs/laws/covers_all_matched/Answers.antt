use Rattle.mqtt_access.proofs.Exact.{covers_all_matched}
use Rattle.mqtt_access.proofs.laws.covers_all_matched.Goals as goal

pub returns : goal.returns
returns c = covers_all_matched
