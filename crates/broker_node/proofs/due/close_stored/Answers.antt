use Rattle.std.proofs.Common.{sym, ap, ◌∙◌}
use Rattle.session_table.specs.Seats.{connected}
use Rattle.broker_node.specs.Due.{PartsFrom}
use Rattle.node_work.specs.View.{HeldView}
use Rattle.node_work.specs.Working.{Each}
use Rattle.node_work.proofs.Working.{comes_looks}
use Rattle.broker_node.proofs.due.close_stored.Goals as goal

pub returns-clause-comes : goal.returns-clause-comes
returns-clause-comes c =
    let sessions = c.sessions.ensures ∙ ap (λ (h : HeldView). h.sessions) c.held.ensures in
    let clients = c.deref.ensures.value ∙ c.in_ok-clients.ensures.clients ∙ (λ i. connected (sessions i)) in
    comes_looks (λ x. x) c.part_each.result c.args.work.now c.part_each.new.work (λ p h. connected h.sessions) (Each PartsFrom) c.deref.result.now (sym clients) c.part_each.ensures.comes
