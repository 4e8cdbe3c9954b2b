use Rattle.std.proofs.Common.{◌∙◌, ap}
use Rattle.std.proofs.lemmas.Result.{IfOk-weaker}
use Rattle.broker_command.specs.Line.{with_options}
use Rattle.broker_command.proofs.line.run_command.Goals as goal

pub returns : goal.returns
returns c =
    IfOk-weaker c.with_options.result _ _ (λ r added. (added.0 ∙ ap with_options c.in_ok-node_words.ensures.0, added.1 c.in_ok-node_words.ensures.1)) c.with_options.ensures
