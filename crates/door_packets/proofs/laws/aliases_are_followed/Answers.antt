use Rattle.door_packets.proofs.Aliasing.{followed}
use Rattle.door_packets.proofs.laws.aliases_are_followed.Goals as goal

pub returns : goal.returns
returns c = followed
