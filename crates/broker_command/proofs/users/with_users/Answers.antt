use Rattle.std.proofs.Common.{◌≡◌, ◌∙◌, ◌||◌, Bool, ap₂, codes, refl}
use Rattle.std.proofs.lemmas.Result.{IfOk-weaker}
use Rattle.clap.specs.Words.{rule_of, with_rule}
use Rattle.broker_command.specs.Line.{file_rule}
use Rattle.broker_command.proofs.users.with_users.Goals as goal

pub returns : goal.returns
returns c =
    let rule-1 : rule_of c.file_option.result ≡ file_rule (codes "users") = c.file_option.ensures.rule in
    let shape-1 = c.in_ok-arg.ensures.shape c.file_option.ensures.local ∙ ap₂ with_rule refl rule-1 in
    let rule-2 : rule_of c.file_option-2.result ≡ file_rule (codes "permissions") = c.file_option-2.ensures.rule in
    let shape-2 = c.in_ok-arg-2.ensures.shape c.file_option-2.ensures.local ∙ ap₂ with_rule shape-1 rule-2 in
    IfOk-weaker c.arg-3.result _ _ (λ r added. (
      added.shape c.anonymous_option.ensures.local ∙ ap₂ with_rule shape-2 c.anonymous_option.ensures.rule,
      λ none.
          let global-1 = c.in_ok-arg.ensures.globals ∙ ap₂ (λ (x y : Bool). x || y) none c.file_option.ensures.local in
          let global-2 = c.in_ok-arg-2.ensures.globals ∙ ap₂ (λ (x y : Bool). x || y) global-1 c.file_option-2.ensures.local in
          added.globals ∙ ap₂ (λ (x y : Bool). x || y) global-2 c.anonymous_option.ensures.local,
    )) c.arg-3.ensures
