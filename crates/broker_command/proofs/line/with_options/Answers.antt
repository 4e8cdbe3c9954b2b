use Rattle.std.proofs.Common.{◌∙◌, ◌||◌, Bool, ap, ap₂, refl}
use Rattle.std.proofs.lemmas.Result.{IfOk-weaker}
use Rattle.clap.specs.Words.{with_rule}
use Rattle.broker_command.specs.Line.{with_addresses, with_limits, with_users}
use Rattle.broker_command.proofs.line.with_options.Goals as goal

pub returns : goal.returns
returns c =
    let one = c.in_ok-arg.ensures.shape c.most_clients_option.ensures.local ∙ ap₂ with_rule refl c.most_clients_option.ensures.rule in
    let two = c.in_ok-arg-2.ensures.shape c.connect_within_option.ensures.local ∙ ap₂ with_rule one c.connect_within_option.ensures.rule in
    let three = c.in_ok-arg-3.ensures.shape c.mqtt3_option.ensures.local ∙ ap₂ with_rule two c.mqtt3_option.ensures.rule in
    let four = c.in_ok-command.ensures.shape c.log_option.ensures.local ∙ ap₂ with_rule three c.log_option.ensures.rule in
    let five = c.in_ok-with_addresses.ensures.0 ∙ ap with_addresses four in
    let six = c.in_ok-command-2.ensures.0 ∙ ap with_limits five in
    IfOk-weaker c.with_users.result _ _ (λ r added. (
      added.0 ∙ ap with_users six,
      λ none.
          let first = c.in_ok-arg.ensures.globals ∙ ap₂ (λ (x y : Bool). x || y) none c.most_clients_option.ensures.local in
          let second = c.in_ok-arg-2.ensures.globals ∙ ap₂ (λ (x y : Bool). x || y) first c.connect_within_option.ensures.local in
          let third = c.in_ok-arg-3.ensures.globals ∙ ap₂ (λ (x y : Bool). x || y) second c.mqtt3_option.ensures.local in
          let fourth = c.in_ok-command.ensures.globals ∙ ap₂ (λ (x y : Bool). x || y) third c.log_option.ensures.local in
          added.1 (c.in_ok-command-2.ensures.1 (c.in_ok-with_addresses.ensures.1 fourth)),
    )) c.with_users.ensures
