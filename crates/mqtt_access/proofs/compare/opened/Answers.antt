use Rattle.std.proofs.Common.{rules}
use Rattle.mqtt_access.proofs.FirstLevels.{opened_others}
use Rattle.mqtt_access.proofs.compare.opened.Goals as goal

pub returns-else-eq : goal.returns-else-eq
returns-else-eq c = opened_others c.args.filter.now (search rules)
