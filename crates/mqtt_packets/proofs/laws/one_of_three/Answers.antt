use Rattle.mqtt_packets.proofs.FaultLaws.{one_of_three}
use Rattle.mqtt_packets.proofs.laws.one_of_three.Goals as goal

pub returns : goal.returns
returns c = one_of_three
