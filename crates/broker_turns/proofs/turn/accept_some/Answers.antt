use Rattle.std.proofs.Common.{Bool, true, false, subst, sym, arith}
use Rattle.broker_turns.specs.Connections.{IsAccepted, IsAwaited, IsNobodyAccepted, world}
use Rattle.broker_turns.specs.Steps.{AreLetInIf}
use Rattle.broker_turns.proofs.Stepping.{EachBelow-more, let_in-all, let_in-most}
use Rattle.broker_turns.proofs.Breaking.{off_err, some_go}
use Rattle.broker_turns.specs.Broken.{IsAskedOnce}
use Rattle.broker_turns.proofs.turn.accept_some.Goals as goal

pub returns-then-not-branch-clause-ok : goal.returns-then-not-branch-clause-ok
returns-then-not-branch-clause-ok g c =
    let Asks : Bool → Type 0 = λ came. IsAwaited g.S.Sockets.accepts g.S.Readiness.watches g.H.Handler.handles c.args.at c.args.listener.now came (world c.loop.sockets c.loop.handler c.loop.clients.slab) (world c.accept_one.new.sockets c.accept_one.new.handler c.accept_one.new.clients.slab) in
    let Asked : Bool → Type 0 = λ asked. AreLetInIf (IsAccepted g.S.Sockets.accepts g.S.Readiness.watches g.H.Handler.handles c.args.at c.args.listener.now) (IsNobodyAccepted g.S.Sockets.accepts g.S.Readiness.watches g.H.Handler.handles c.args.at c.args.listener.now) 64 asked (world c.args.sockets.now c.args.handler.now c.args.clients.now.slab) false (world c.accept_one.new.sockets c.accept_one.new.handler c.accept_one.new.clients.slab) in
    subst Asked (sym c.if-not-asked.false)
    (let_in-all (IsAccepted g.S.Sockets.accepts g.S.Readiness.watches g.H.Handler.handles c.args.at c.args.listener.now) (IsNobodyAccepted g.S.Sockets.accepts g.S.Readiness.watches g.H.Handler.handles c.args.at c.args.listener.now) 64 c.loop.counter (world c.args.sockets.now c.args.handler.now c.args.clients.now.slab) (world c.loop.sockets c.loop.handler c.loop.clients.slab) (world c.accept_one.new.sockets c.accept_one.new.handler c.accept_one.new.clients.slab) (omega (arith, c.loop-test.true)) c.loop.invariant (subst Asks c.if-not-branch.true c.in_ok-accept_one.ensures.ok))

pub loop-preserved : goal.loop-preserved
loop-preserved g c =
    let Asks : Bool → Type 0 = λ came. IsAwaited g.S.Sockets.accepts g.S.Readiness.watches g.H.Handler.handles c.args.at c.args.listener.now came (world c.loop.sockets c.loop.handler c.loop.clients.slab) (world c.accept_one.new.sockets c.accept_one.new.handler c.accept_one.new.clients.slab) in
    EachBelow-more _ _ _ _ _ c.loop.invariant (subst Asks c.if-not-branch.false c.in_ok-accept_one.ensures.ok)

pub returns-clause-ok : goal.returns-clause-ok
returns-clause-ok g c =
    let Asked : Bool → Type 0 = λ asked. AreLetInIf (IsAccepted g.S.Sockets.accepts g.S.Readiness.watches g.H.Handler.handles c.args.at c.args.listener.now) (IsNobodyAccepted g.S.Sockets.accepts g.S.Readiness.watches g.H.Handler.handles c.args.at c.args.listener.now) 64 asked (world c.args.sockets.now c.args.handler.now c.args.clients.now.slab) true (world c.loop.sockets c.loop.handler c.loop.clients.slab) in
    subst Asked (sym c.if-not-asked.false)
    (let_in-most (IsAccepted g.S.Sockets.accepts g.S.Readiness.watches g.H.Handler.handles c.args.at c.args.listener.now) (IsNobodyAccepted g.S.Sockets.accepts g.S.Readiness.watches g.H.Handler.handles c.args.at c.args.listener.now) 64 c.loop.counter (world c.args.sockets.now c.args.handler.now c.args.clients.now.slab) (world c.loop.sockets c.loop.handler c.loop.clients.slab) (omega (arith, c.loop-test.false)) c.loop.invariant)

pub returns-in_err-accept_one-clause-fault : goal.returns-in_err-accept_one-clause-fault
returns-in_err-accept_one-clause-fault g c =
    off_err g.H.Handler.handles g.H.BridgeHandler.hears g.H.Handler.refuses g.H.BridgeHandler.declines c.args.at (IsAskedOnce g.S.Sockets.accepts g.S.Readiness.watches g.S.Sockets.connects g.S.Sockets.reads) c.from_residual.result c.in_err-accept_one.field-0.0 (c.args.sockets.now, c.args.handler.now) (c.loop.sockets, c.loop.handler) (c.accept_one.new.sockets, c.accept_one.new.handler)
    c.from_residual.ensures.1
    (some_go g.S.Sockets.accepts g.S.Readiness.watches g.S.Sockets.connects g.S.Sockets.reads g.H.Handler.handles g.H.BridgeHandler.hears c.args.at c.args.listener.now c.loop.counter (world c.args.sockets.now c.args.handler.now c.args.clients.now.slab) (world c.loop.sockets c.loop.handler c.loop.clients.slab) c.loop.invariant)
    c.in_err-accept_one.ensures.fault
