use Rattle.mqtt_packets.proofs.FaultLaws.{never_spelled}
use Rattle.mqtt_packets.proofs.laws.never_spelled.Goals as goal

pub returns : goal.returns
returns c = never_spelled
