use Rattle.std.proofs.Common.{sym, subst}
use Rattle.node_work.specs.Held.Connections.{client_at}
use Rattle.node_work.specs.Working.{ComesTo}
use Rattle.node_work.proofs.Working.{comes_looks}
use Rattle.node_clients.specs.Ending.{ClosesBy}
use Rattle.node_clients.proofs.piece.shut.Goals as goal

pub returns : goal.returns
returns c =
    let at = c.args.connection in
    let w = c.args.work.now in
    let n = c.close_by.new.work in
    let r = c.close_by.result in
    comes_looks (λ x. x) r w n (λ p h. client_at at h) (ClosesBy at) c.in_ok-client.client (sym c.in_ok-client.ensures.ok)
    (subst (λ x. ComesTo (λ y. y) r w n (ClosesBy at x)) c.as_ref.ensures.value c.close_by.ensures)
