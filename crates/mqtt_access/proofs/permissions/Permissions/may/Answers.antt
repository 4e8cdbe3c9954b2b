use Rattle.std.proofs.Common.{List, ap, ◌∙◌}
use Rattle.std.specs.List.{list_any}
use Rattle.std.specs.Option.{option_copied}
use Rattle.mqtt_access.specs.declared.rule.TopicRule.{TopicRule}
use Rattle.mqtt_access.specs.Rules.{allows, asked_of, denies}
use Rattle.mqtt_access.proofs.Tests.{joined}
use Rattle.mqtt_access.proofs.permissions.Permissions.may.Goals as goal

pub returns-then-some_allows : goal.returns-then-some_allows
returns-then-some_allows c =
    let gives = λ (rules : List TopicRule). list_any (λ rule. allows rule (option_copied c.args.user) c.args.client.now (asked_of c.args.request)) rules in
    let forbids = λ (rules : List TopicRule). list_any (λ rule. denies rule (option_copied c.args.user) c.args.client.now (asked_of c.args.request)) rules in
    let rules = c.args.self.now.topics.items in
    joined c.some_allows.result c.some_denies.result (gives rules) (forbids rules) c.if-some_allows.true (c.some_allows.ensures ∙ ap gives c.deref.ensures.value) (c.some_denies.ensures ∙ ap forbids c.deref-then-some_allows.ensures.value)
