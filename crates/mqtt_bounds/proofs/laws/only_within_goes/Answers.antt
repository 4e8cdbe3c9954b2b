use Rattle.mqtt_bounds.proofs.Within.{only_within}
use Rattle.mqtt_bounds.proofs.laws.only_within_goes.Goals as goal

pub returns : goal.returns
returns c = only_within
