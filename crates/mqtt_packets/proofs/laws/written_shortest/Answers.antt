use Rattle.mqtt_packets.proofs.WrittenLaws.{written_shortest}
use Rattle.mqtt_packets.proofs.laws.written_shortest.Goals as goal

pub returns : goal.returns
returns c = written_shortest
