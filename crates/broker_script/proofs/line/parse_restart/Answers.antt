use Rattle.broker_script.proofs.Commands.{no_restart}
use Rattle.broker_script.proofs.line.parse_restart.Goals as goal

pub returns-in_err-node-clause-none : goal.returns-in_err-node-clause-none
returns-in_err-node-clause-none c = rw c.from_residual.ensures (no_restart _ c.in_err-node.ensures.none)
