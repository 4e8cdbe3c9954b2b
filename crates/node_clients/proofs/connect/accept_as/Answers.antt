use Rattle.std.proofs.Common.{None}
use Rattle.node_work.proofs.Working.{comes_where}
use Rattle.node_clients.specs.Connecting.{Accepts, RefusesConnect, WillIsNamed}
use Rattle.node_clients.proofs.connect.accept_as.Goals as goal

pub returns : goal.returns
returns c =
    let p = c.args.packet.now in
    let at = c.args.connection in
    comes_where (λ x. x) c.accept.result c.args.work.now c.accept.new.work (WillIsNamed p.will) (Accepts at p p.client) (RefusesConnect at p 144 None) (c.will_is_named.ensures.named.0 c.if-not-will_is_named.false) c.accept.ensures
