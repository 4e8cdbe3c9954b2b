use Rattle.mqtt_packets.proofs.GrowLaws.{one_front}
use Rattle.mqtt_packets.proofs.laws.one_front.Goals as goal

pub returns : goal.returns
returns c = one_front
