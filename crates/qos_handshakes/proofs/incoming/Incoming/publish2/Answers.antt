use Rattle.std.proofs.Common.{arith}
use Rattle.qos_handshakes.proofs.Arrivals.{here-inserted, absent}
use Rattle.qos_handshakes.proofs.incoming.Incoming.publish2.Goals as goal

pub invariant_of-self-2 : goal.invariant_of-self-2
invariant_of-self-2 c =
    let none = absent c.opened-known.result _ c.is_some.result c.opened-known.ensures c.is_some.ensures c.if-is_some.false in
    rw (c.in_ok-insert.ensures.entries, here-inserted c.args.id c.self.inside.exchanges.entries (rw (← c.self.view_is) at none)) (rw c.self.invariant (omega arith))
