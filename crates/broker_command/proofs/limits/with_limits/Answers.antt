use Rattle.std.proofs.Common.{◌≡◌, ◌∙◌, ◌||◌, Bool, ap₂, codes, refl}
use Rattle.std.proofs.lemmas.Result.{IfOk-weaker}
use Rattle.clap.specs.Words.{rule_of, with_rule}
use Rattle.broker_command.specs.Line.{number_rule}
use Rattle.broker_command.proofs.limits.with_limits.Goals as goal

pub returns : goal.returns
returns c =
    let rule-1 : rule_of c.number_option.result ≡ number_rule (codes "most-memory") = c.number_option.ensures.rule in
    let shape-1 = c.in_ok-arg.ensures.shape c.number_option.ensures.local ∙ ap₂ with_rule refl rule-1 in
    let rule-2 : rule_of c.number_option-2.result ≡ number_rule (codes "longest-packet") = c.number_option-2.ensures.rule in
    let shape-2 = c.in_ok-arg-2.ensures.shape c.number_option-2.ensures.local ∙ ap₂ with_rule shape-1 rule-2 in
    let rule-3 : rule_of c.number_option-3.result ≡ number_rule (codes "most-filters") = c.number_option-3.ensures.rule in
    let shape-3 = c.in_ok-arg-3.ensures.shape c.number_option-3.ensures.local ∙ ap₂ with_rule shape-2 rule-3 in
    let rule-4 : rule_of c.number_option-4.result ≡ number_rule (codes "most-levels") = c.number_option-4.ensures.rule in
    let shape-4 = c.in_ok-arg-4.ensures.shape c.number_option-4.ensures.local ∙ ap₂ with_rule shape-3 rule-4 in
    let rule-5 : rule_of c.number_option-5.result ≡ number_rule (codes "most-properties") = c.number_option-5.ensures.rule in
    let shape-5 = c.in_ok-arg-5.ensures.shape c.number_option-5.ensures.local ∙ ap₂ with_rule shape-4 rule-5 in
    let rule-6 : rule_of c.number_option-6.result ≡ number_rule (codes "longest-expiry") = c.number_option-6.ensures.rule in
    let shape-6 = c.in_ok-arg-6.ensures.shape c.number_option-6.ensures.local ∙ ap₂ with_rule shape-5 rule-6 in
    IfOk-weaker c.arg-7.result _ _ (λ r added. (
      added.shape c.careful_option.ensures.local ∙ ap₂ with_rule shape-6 c.careful_option.ensures.rule,
      λ none.
          let global-1 = c.in_ok-arg.ensures.globals ∙ ap₂ (λ (x y : Bool). x || y) none c.number_option.ensures.local in
          let global-2 = c.in_ok-arg-2.ensures.globals ∙ ap₂ (λ (x y : Bool). x || y) global-1 c.number_option-2.ensures.local in
          let global-3 = c.in_ok-arg-3.ensures.globals ∙ ap₂ (λ (x y : Bool). x || y) global-2 c.number_option-3.ensures.local in
          let global-4 = c.in_ok-arg-4.ensures.globals ∙ ap₂ (λ (x y : Bool). x || y) global-3 c.number_option-4.ensures.local in
          let global-5 = c.in_ok-arg-5.ensures.globals ∙ ap₂ (λ (x y : Bool). x || y) global-4 c.number_option-5.ensures.local in
          let global-6 = c.in_ok-arg-6.ensures.globals ∙ ap₂ (λ (x y : Bool). x || y) global-5 c.number_option-6.ensures.local in
          added.globals ∙ ap₂ (λ (x y : Bool). x || y) global-6 c.careful_option.ensures.local,
    )) c.arg-7.ensures
