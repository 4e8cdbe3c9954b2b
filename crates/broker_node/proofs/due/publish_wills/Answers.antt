use Rattle.std.proofs.Common.{sym, ap, ◌∙◌}
use Rattle.session_table.specs.Seats.{wills_due}
use Rattle.broker_node.specs.Due.{TicksOf}
use Rattle.node_work.specs.View.{HeldView}
use Rattle.node_work.specs.Working.{Each}
use Rattle.node_work.proofs.Working.{comes_looks}
use Rattle.broker_node.proofs.due.publish_wills.Goals as goal

pub returns-clause-comes : goal.returns-clause-comes
returns-clause-comes c =
    let sessions = c.sessions.ensures ∙ ap (λ (h : HeldView). h.sessions) c.held-held.ensures in
    let at = c.at.ensures.at ∙ ap (λ (h : HeldView). h.at) c.held-held.ensures in
    let dues = c.deref.ensures.value ∙ c.in_ok-dues.ensures.due ∙ (λ i. wills_due (sessions i) (at i)) in
    comes_looks (λ x. x) c.tick_each.result c.args.work.now c.tick_each.new.work (λ p h. wills_due h.sessions h.at) (Each TicksOf) c.deref.result.now (sym dues) c.tick_each.ensures.comes
