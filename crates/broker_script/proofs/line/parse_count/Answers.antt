use Rattle.broker_script.proofs.Commands.{no_nodes}
use Rattle.broker_script.proofs.line.parse_count.Goals as goal

pub returns-in_err-nodes-clause-none : goal.returns-in_err-nodes-clause-none
returns-in_err-nodes-clause-none c = rw c.from_residual.ensures (no_nodes _ c.in_err-nodes.ensures.none)
