use Rattle.mqtt_packets.proofs.SpelledLaws.{never_faulty}
use Rattle.mqtt_packets.proofs.laws.never_faulty.Goals as goal

pub returns : goal.returns
returns c = never_faulty
