use Rattle.std.proofs.Common.{Some, sym, subst}
use Rattle.node_work.specs.Held.Connections.{client_at}
use Rattle.node_work.specs.Working.{ComesTo, Did}
use Rattle.node_work.proofs.Working.{comes_looks, then_goes}
use Rattle.node_clients.specs.Ending.{ClosesBy}
use Rattle.node_clients.specs.Pieces.{BreaksBy, TellsBy}
use Rattle.node_clients.proofs.stream_fault.break_off.Goals as goal

pub returns : goal.returns
returns c =
    let at = c.args.connection in
    let w = c.args.work.now in
    let m = c.tell.new.work in
    let n = c.close_by.new.work in
    let r = c.close_by.result in
    let client = c.in_ok-client.client in
    let told = subst (λ x. Did w m (TellsBy at c.args.fault x (Some tt))) c.as_ref.ensures.value c.in_ok-tell.ensures in
    let closed = subst (λ x. ComesTo (λ y. y) r m n (ClosesBy at x)) c.as_ref-2.ensures.value c.close_by.ensures in
    comes_looks (λ x. x) r w n (λ p h. client_at at h) (BreaksBy at c.args.fault) client (sym c.in_ok-client.ensures.ok)
    (then_goes (TellsBy at c.args.fault client) (λ _. ClosesBy at client) (λ x. x) r w m n tt told closed)
