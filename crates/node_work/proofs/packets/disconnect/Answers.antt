use Rattle.std.proofs.Common.{arith}
use Rattle.node_work.proofs.Spelled.{disconnect_spelled}
use Rattle.node_work.proofs.packets.disconnect.Goals as goal

pub returns-clause-spelled : goal.returns-clause-spelled
returns-clause-spelled c = rw c.new.ensures (disconnect_spelled c.args.reason (omega arith))
