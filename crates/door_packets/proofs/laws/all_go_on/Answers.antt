use Rattle.door_packets.proofs.Going.{all_go_on}
use Rattle.door_packets.proofs.laws.all_go_on.Goals as goal

pub returns : goal.returns
returns c = all_go_on
