use Rattle.mqtt_bounds.proofs.Within.{goes_within}
use Rattle.mqtt_bounds.proofs.laws.goes_where_within.Goals as goal

pub returns : goal.returns
returns c = goes_within
