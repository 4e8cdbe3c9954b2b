use Rattle.std.proofs.Common.{Option, Some, sym, ap, subst, ◌∙◌}
use Rattle.mqtt_sessions.specs.declared.reaction.Ask.{Ask}
use Rattle.node_work.specs.Working.{Did}
use Rattle.node_work.proofs.Working.{did_nothing}
use Rattle.node_clients.specs.Ending.{PassesAsked}
use Rattle.node_clients.proofs.ending.pass_asked.Goals as goal

pub returns-in-Some-Subscribe : goal.returns-in-Some-Subscribe
returns-in-Some-Subscribe c =
    let w = c.args.work.now in
    subst (λ (a : Option Ask). Did w w (PassesAsked a (Some tt))) (sym (c.in-Some-Subscribe.is ∙ ap (λ (a : Ask). Some a) c.in-Some-Subscribe.field-0-is)) (did_nothing w tt)

pub returns-in-Some-Unsubscribe : goal.returns-in-Some-Unsubscribe
returns-in-Some-Unsubscribe c =
    let w = c.args.work.now in
    subst (λ (a : Option Ask). Did w w (PassesAsked a (Some tt))) (sym (c.in-Some-Unsubscribe.is ∙ ap (λ (a : Ask). Some a) c.in-Some-Unsubscribe.field-0-is)) (did_nothing w tt)

pub returns-in-None : goal.returns-in-None
returns-in-None c =
    let w = c.args.work.now in
    subst (λ (a : Option Ask). Did w w (PassesAsked a (Some tt))) (sym c.in-None.is) (did_nothing w tt)
