use Rattle.mqtt_topics.proofs.Testing.{decides_filter}
use Rattle.mqtt_topics.proofs.laws.filters_are_tested.Goals as goal

pub returns : goal.returns
returns c = decides_filter
