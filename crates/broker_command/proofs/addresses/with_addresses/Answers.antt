use Rattle.std.proofs.Common.{◌≡◌, ◌∙◌, ◌||◌, Bool, ap₂, codes, refl}
use Rattle.std.proofs.lemmas.Result.{IfOk-weaker}
use Rattle.clap.specs.Words.{rule_of, with_rule}
use Rattle.broker_command.specs.Line.{address_rule}
use Rattle.broker_command.proofs.addresses.with_addresses.Goals as goal

pub returns : goal.returns
returns c =
    let rule-1 : rule_of c.address_option.result ≡ address_rule (codes "status") = c.address_option.ensures.rule in
    let shape-1 = c.in_ok-arg.ensures.shape c.address_option.ensures.local ∙ ap₂ with_rule refl rule-1 in
    let rule-2 : rule_of c.address_option-2.result ≡ address_rule (codes "status-host") = c.address_option-2.ensures.rule in
    let shape-2 = c.in_ok-arg-2.ensures.shape c.address_option-2.ensures.local ∙ ap₂ with_rule shape-1 rule-2 in
    let rule-3 : rule_of c.address_option-3.result ≡ address_rule (codes "listen") = c.address_option-3.ensures.rule in
    let shape-3 = c.in_ok-arg-3.ensures.shape c.address_option-3.ensures.local ∙ ap₂ with_rule shape-2 rule-3 in
    let rule-4 : rule_of c.address_option-4.result ≡ address_rule (codes "bridge-listen") = c.address_option-4.ensures.rule in
    let shape-4 = c.in_ok-arg-4.ensures.shape c.address_option-4.ensures.local ∙ ap₂ with_rule shape-3 rule-4 in
    IfOk-weaker c.arg-5.result _ _ (λ r added. (
      added.shape c.anywhere_option.ensures.local ∙ ap₂ with_rule shape-4 c.anywhere_option.ensures.rule,
      λ none.
          let global-1 = c.in_ok-arg.ensures.globals ∙ ap₂ (λ (x y : Bool). x || y) none c.address_option.ensures.local in
          let global-2 = c.in_ok-arg-2.ensures.globals ∙ ap₂ (λ (x y : Bool). x || y) global-1 c.address_option-2.ensures.local in
          let global-3 = c.in_ok-arg-3.ensures.globals ∙ ap₂ (λ (x y : Bool). x || y) global-2 c.address_option-3.ensures.local in
          let global-4 = c.in_ok-arg-4.ensures.globals ∙ ap₂ (λ (x y : Bool). x || y) global-3 c.address_option-4.ensures.local in
          added.globals ∙ ap₂ (λ (x y : Bool). x || y) global-4 c.anywhere_option.ensures.local,
    )) c.arg-5.ensures
