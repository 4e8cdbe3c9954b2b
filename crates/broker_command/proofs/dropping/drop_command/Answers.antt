use Rattle.std.proofs.Common.{◌≡◌, ◌∙◌, ◌||◌, Bool, ap₂, codes}
use Rattle.std.proofs.lemmas.Result.{IfOk-weaker}
use Rattle.clap.specs.Words.{rule_of, with_rule}
use Rattle.broker_command.specs.Line.{address_rule}
use Rattle.broker_command.proofs.dropping.drop_command.Goals as goal

pub returns : goal.returns
returns c =
    let rule-1 : rule_of c.address_option.result ≡ address_rule (codes "session") = c.address_option.ensures.rule in
    let shape-1 = c.in_ok-arg.ensures.shape c.address_option.ensures.local ∙ ap₂ with_rule c.in_ok-node_words.ensures.0 rule-1 in
    let rule-2 : rule_of c.address_option-2.result ≡ address_rule (codes "queue") = c.address_option-2.ensures.rule in
    let shape-2 = c.in_ok-arg-2.ensures.shape c.address_option-2.ensures.local ∙ ap₂ with_rule shape-1 rule-2 in
    let rule-3 : rule_of c.address_option-3.result ≡ address_rule (codes "lane") = c.address_option-3.ensures.rule in
    let global-1 = c.in_ok-arg.ensures.globals ∙ ap₂ (λ (x y : Bool). x || y) c.in_ok-node_words.ensures.1 c.address_option.ensures.local in
    let global-2 = c.in_ok-arg-2.ensures.globals ∙ ap₂ (λ (x y : Bool). x || y) global-1 c.address_option-2.ensures.local in
    IfOk-weaker c.arg-3.result _ _ (λ r added. (
      added.shape c.address_option-3.ensures.local ∙ ap₂ with_rule shape-2 rule-3,
      added.globals ∙ ap₂ (λ (x y : Bool). x || y) global-2 c.address_option-3.ensures.local,
    )) c.arg-3.ensures
