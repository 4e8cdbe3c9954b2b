use Rattle.mqtt_packets.proofs.GrowLaws.{any_pieces}
use Rattle.mqtt_packets.proofs.laws.any_pieces.Goals as goal

pub returns : goal.returns
returns c = any_pieces
