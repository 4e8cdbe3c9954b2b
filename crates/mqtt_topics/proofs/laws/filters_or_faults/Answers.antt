use Rattle.mqtt_topics.proofs.VerdictLaws.{filters_or_faults}
use Rattle.mqtt_topics.proofs.laws.filters_or_faults.Goals as goal

pub returns : goal.returns
returns c = filters_or_faults
