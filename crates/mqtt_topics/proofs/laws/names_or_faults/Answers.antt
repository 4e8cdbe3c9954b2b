use Rattle.mqtt_topics.proofs.VerdictLaws.{names_or_faults}
use Rattle.mqtt_topics.proofs.laws.names_or_faults.Goals as goal

pub returns : goal.returns
returns c = names_or_faults
