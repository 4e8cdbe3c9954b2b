use Rattle.broker_script.proofs.Commands.{no_deliver}
use Rattle.broker_script.proofs.line.parse_deliver.Goals as goal

pub returns-in_err-frame-clause-none : goal.returns-in_err-frame-clause-none
returns-in_err-frame-clause-none c = rw c.from_residual.ensures (no_deliver _ c.in_err-frame.ensures.none)
