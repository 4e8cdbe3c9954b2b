use Rattle.std.proofs.Common.{◌-◌, length}
use Rattle.broker_holds.proofs.packets.Packets.take.Given as goal

abbrev pub decreases-packets : goal.decreases-packets
decreases-packets l = length l.bytes - l.at
