use Rattle.std.proofs.Common.{◌∙◌, ◌||◌, Bool, ap, ap₂}
use Rattle.std.proofs.lemmas.Result.{IfOk-weaker}
use Rattle.clap.specs.Words.{with_rule}
use Rattle.broker_command.specs.Line.{with_options}
use Rattle.broker_command.proofs.line.serve_command.Goals as goal

pub returns : goal.returns
returns c =
    let counted = c.in_ok-arg.ensures.shape c.turns_option.ensures.local ∙ ap₂ with_rule c.in_ok-words.ensures.0 c.turns_option.ensures.rule in
    let none = c.in_ok-arg.ensures.globals ∙ ap₂ (λ (x y : Bool). x || y) c.in_ok-words.ensures.1 c.turns_option.ensures.local in
    IfOk-weaker c.with_options.result _ _ (λ r added. (added.0 ∙ ap with_options counted, added.1 none)) c.with_options.ensures
