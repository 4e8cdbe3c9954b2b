use Rattle.mqtt_packets.proofs.SpelledLaws.{cut_is_spelled}
use Rattle.mqtt_packets.proofs.laws.cut_is_spelled.Goals as goal

pub returns : goal.returns
returns c = cut_is_spelled
