use Rattle.broker_command.proofs.Lines.{asked, refused}
use Rattle.broker_command.proofs.line.parse.Goals as goal

pub returns : goal.returns
returns c = asked _ _ c.in_ok-matches.matches c.in_ok-commands.ensures c.in_ok-matches.ensures.matches c.in_ok-matches.ensures.kinds c.in_ok-named_task.field-0
    c.in_ok-named_task.ensures

pub returns-in_err-matches : goal.returns-in_err-matches
returns-in_err-matches c = refused _ _ c.in_err-matches.field-0.0 c.from_residual-in_err-matches.result _ c.in_ok-commands.ensures
    c.in_err-matches.ensures.kinds c.from_residual-in_err-matches.ensures.1
