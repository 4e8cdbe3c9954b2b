use Rattle.mqtt_access.proofs.Exact.{filters_match_alike}
use Rattle.mqtt_access.proofs.laws.filters_match_alike.Goals as goal

pub returns : goal.returns
returns c = filters_match_alike
