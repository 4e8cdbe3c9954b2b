use Rattle.mqtt_topics.proofs.ShareLaws.{shared_matches_alike}
use Rattle.mqtt_topics.proofs.laws.shared_matches_alike.Goals as goal

pub returns : goal.returns
returns c = shared_matches_alike
