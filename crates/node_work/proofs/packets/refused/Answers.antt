use Rattle.std.proofs.Common.{arith}
use Rattle.node_work.proofs.Spelled.{refused_spelled}
use Rattle.node_work.proofs.packets.refused.Goals as goal

pub returns-clause-spelled : goal.returns-clause-spelled
returns-clause-spelled c = rw c.in_ok-properties.ensures.ok (refused_spelled c.args.reason c.args.reference (omega arith) c.in_ok-properties.ensures.text)
