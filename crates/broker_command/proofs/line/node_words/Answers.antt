use Rattle.std.proofs.Common.{◌≡◌, ◌∙◌, ◌||◌, Bool, false, ap, ap₂, rules, codes}
use Rattle.std.proofs.lemmas.Result.{IfOk-weaker}
use Rattle.clap.specs.Words.{app_of, new_app, rule_of, with_rule}
use Rattle.clap.specs.Simple.{app_of_fields}
use Rattle.clap.specs.declared.builder.command.Command.TheViews.{out-Command}
use Rattle.broker_command.specs.Line.{word_rule}
use Rattle.broker_command.proofs.line.node_words.Goals as goal

pub returns : goal.returns
returns c =
    let configuration : rule_of c.help.result ≡ word_rule (codes "CONFIG") = search rules in
    let node : rule_of c.help-2.result ≡ word_rule (codes "NODE") = search rules in
    let database : rule_of c.help-3.result ≡ word_rule (codes "DATABASE") = search rules in
    let none : app_of c.about.result ≡ new_app c.args.name.now = ap app_of_fields c.about.ensures ∙ c.new.ensures.app in
    let one = c.in_ok-arg.ensures.shape (search rules) ∙ ap₂ with_rule none configuration in
    let two = c.in_ok-arg-2.ensures.shape (search rules) ∙ ap₂ with_rule one node in
    let local : (out-Command c.in_ok-arg-2.field-0).has_globals ≡ false = search rules in
    let global : c.help-3.result.global ≡ false = search rules in
    IfOk-weaker c.arg-3.result _ _ (λ r added. (
      added.shape global ∙ ap₂ with_rule two database,
      added.globals ∙ ap₂ (λ (x y : Bool). x || y) local global,
    )) c.arg-3.ensures
