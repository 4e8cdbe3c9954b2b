use Rattle.std.proofs.Common.{sym, arith}
use Rattle.qos_handshakes.proofs.Arrivals.{here-removed}
use Rattle.qos_handshakes.proofs.incoming.Incoming.release.Goals as goal

pub overflow_sub-self : goal.overflow_sub-self
overflow_sub-self c =
    let e = here-removed c.args.id c.in-Some.here c.self.inside.exchanges.entries (sym c.in-Some.ensures.value) in
    let f = rw c.if-here.true at e in omega (arith, f, c.self.invariant)

pub invariant_of-self-then-here : goal.invariant_of-self-then-here
invariant_of-self-then-here c =
    let e = here-removed c.args.id c.in-Some.here c.self.inside.exchanges.entries (sym c.in-Some.ensures.value) in
    let f = rw c.if-here.true at e in rw c.remove.ensures.entries (omega (arith, f, c.self.invariant))

pub invariant_of-self-else-here : goal.invariant_of-self-else-here
invariant_of-self-else-here c =
    let e = here-removed c.args.id c.in-Some.here c.self.inside.exchanges.entries (sym c.in-Some.ensures.value) in
    let f = rw c.if-here.false at e in rw c.remove.ensures.entries (omega (arith, f, c.self.invariant))
