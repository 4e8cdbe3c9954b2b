use Rattle.std.proofs.Common.{Some, None, Ok, Result, sym, ◌∙◌}
use Rattle.node_work.specs.Acts.{Connection}
use Rattle.node_work.specs.declared.fault.NodeFault.{NodeFault}
use Rattle.node_work.specs.Held.Connections.{Closed, client_at}
use Rattle.node_work.specs.Working.{Acting, Returns}
use Rattle.node_work.proofs.Working.{comes_looks, did_nothing, then_goes}
use Rattle.node_clients.specs.Ending.{Parts}
use Rattle.node_clients.specs.Pieces.{LeavesBy}
use Rattle.node_clients.proofs.piece.leave_open.Goals as goal

pub returns-in-Some-clause-comes : goal.returns-in-Some-clause-comes
returns-in-Some-clause-comes c =
    let at = c.args.connection in
    let client = c.in-Some.client in
    let w = c.args.work.now in
    let n = c.part.new.work in
    let r = c.part.result in
    comes_looks (λ x. x) r w n (λ p h. client_at at h) (LeavesBy at) (Some client) (sym c.in_ok-client.ensures.ok ∙ c.in-Some.is)
    (then_goes (Acting (λ p h. Connection (Closed at))) (λ _. Parts client) (λ x. x) r w c.close.new.self n tt c.in_ok-close.ensures.comes c.part.ensures)

pub returns-in-None-clause-comes : goal.returns-in-None-clause-comes
returns-in-None-clause-comes c =
    let at = c.args.connection in
    let w = c.args.work.now in
    let n = c.close.new.self in
    let done : Result (Unit {0}) NodeFault = Ok tt in
    comes_looks (λ x. x) done w n (λ p h. client_at at h) (LeavesBy at) None (sym c.in_ok-client.ensures.ok ∙ c.in-None.is)
    (then_goes (Acting (λ p h. Connection (Closed at))) (λ _. Returns tt) (λ x. x) done w n n tt c.in_ok-close.ensures.comes (did_nothing n tt))
