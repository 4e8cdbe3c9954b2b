use Rattle.std.proofs.Common.{sym, ap, ◌∙◌}
use Rattle.node_work.specs.Held.Connections.{is_open, client_at}
use Rattle.node_work.specs.Working.{Looks, Returns}
use Rattle.node_work.proofs.Working.{comes_when}
use Rattle.node_clients.specs.Pieces.{LeavesBy}
use Rattle.node_clients.proofs.piece.leave.Goals as goal

pub returns-clause-comes : goal.returns-clause-comes
returns-clause-comes c =
    let at = c.args.connection in
    let opened = ap (is_open at) (sym c.held.ensures) ∙ sym c.is_open.ensures ∙ c.if-not-is_open.false in
    comes_when (λ x. x) c.leave_open.result c.args.work.now c.leave_open.new.work (λ p h. is_open at h) (Looks (λ p h. client_at at h) (LeavesBy at)) (Returns tt) opened c.leave_open.ensures.comes
