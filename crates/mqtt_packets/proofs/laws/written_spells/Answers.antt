use Rattle.mqtt_packets.proofs.WrittenLaws.{written_spells}
use Rattle.mqtt_packets.proofs.laws.written_spells.Goals as goal

pub returns : goal.returns
returns c = written_spells
