use Rattle.std.proofs.Common.{refl}
use Rattle.broker_node.proofs.Going.{waits}
use Rattle.broker_node.proofs.turn.wait.Goals as goal

pub returns-in_default : goal.returns-in_default
returns-in_default c = record { idle = λ idle. (refl, refl, refl); comes = waits c.args.kind.now c.in_default.not-Started c.args.work.now }
