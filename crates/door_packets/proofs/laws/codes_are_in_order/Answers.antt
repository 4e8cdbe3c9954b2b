use Rattle.door_packets.proofs.Ordering.{in_order}
use Rattle.door_packets.proofs.laws.codes_are_in_order.Goals as goal

pub returns : goal.returns
returns c = in_order
