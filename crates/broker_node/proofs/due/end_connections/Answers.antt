use Rattle.std.proofs.Common.{sym, ap, ◌∙◌}
use Rattle.session_table.specs.Seats.{run_outs}
use Rattle.broker_node.specs.Due.{RunsOut}
use Rattle.node_work.specs.View.{HeldView}
use Rattle.node_work.specs.Working.{Each}
use Rattle.node_work.proofs.Working.{comes_looks}
use Rattle.broker_node.proofs.due.end_connections.Goals as goal

pub returns-clause-comes : goal.returns-clause-comes
returns-clause-comes c =
    let sessions = c.sessions.ensures ∙ ap (λ (h : HeldView). h.sessions) c.held-held.ensures in
    let at = c.at.ensures.at ∙ ap (λ (h : HeldView). h.at) c.held-held.ensures in
    let dues = c.deref.ensures.value ∙ c.in_ok-dues.ensures.due ∙ (λ i. run_outs (sessions i) (at i)) in
    comes_looks (λ x. x) c.end_each.result c.args.work.now c.end_each.new.work (λ p h. run_outs h.sessions h.at) (Each RunsOut) c.deref.result.now (sym dues) c.end_each.ensures.comes
