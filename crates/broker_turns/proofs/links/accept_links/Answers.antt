use Rattle.std.proofs.Common.{Bool, true, false, subst, sym, arith}
use Rattle.broker_turns.specs.Bridging.{IsLinkAccepted, IsLinkAwaited, IsNoLinkAccepted}
use Rattle.broker_turns.specs.Steps.{AreLetInIf}
use Rattle.broker_turns.proofs.Stepping.{EachBelow-more, let_in-all, let_in-most}
use Rattle.broker_turns.proofs.Breaking.{asked_over, links_came, on_err_any}
use Rattle.broker_turns.specs.Broken.{IsAskedOnce}
use Rattle.broker_turns.proofs.links.accept_links.Goals as goal

pub returns-then-not-branch-clause-ok : goal.returns-then-not-branch-clause-ok
returns-then-not-branch-clause-ok g c =
    let Asks : Bool → Type 0 = λ came. IsLinkAwaited g.S.Sockets.accepts g.S.Readiness.watches c.args.listener.now came (c.loop.sockets, c.loop.accepted) (c.accept_link.new.sockets, c.accept_link.new.accepted) in
    let Asked : Bool → Type 0 = λ asked. AreLetInIf (IsLinkAccepted g.S.Sockets.accepts g.S.Readiness.watches c.args.listener.now) (IsNoLinkAccepted g.S.Sockets.accepts g.S.Readiness.watches c.args.listener.now) 64 asked (c.args.sockets.now, c.args.accepted.now) false (c.accept_link.new.sockets, c.accept_link.new.accepted) in
    subst Asked (sym c.if-not-asked.false)
    (let_in-all (IsLinkAccepted g.S.Sockets.accepts g.S.Readiness.watches c.args.listener.now) (IsNoLinkAccepted g.S.Sockets.accepts g.S.Readiness.watches c.args.listener.now) 64 c.loop.counter (c.args.sockets.now, c.args.accepted.now) (c.loop.sockets, c.loop.accepted) (c.accept_link.new.sockets, c.accept_link.new.accepted) (omega (arith, c.loop-test.true)) c.loop.invariant (subst Asks c.if-not-branch.true c.in_ok-accept_link.ensures.ok))

pub loop-preserved : goal.loop-preserved
loop-preserved g c =
    let Asks : Bool → Type 0 = λ came. IsLinkAwaited g.S.Sockets.accepts g.S.Readiness.watches c.args.listener.now came (c.loop.sockets, c.loop.accepted) (c.accept_link.new.sockets, c.accept_link.new.accepted) in
    EachBelow-more _ _ _ _ _ c.loop.invariant (subst Asks c.if-not-branch.false c.in_ok-accept_link.ensures.ok)

pub returns-clause-ok : goal.returns-clause-ok
returns-clause-ok g c =
    let Asked : Bool → Type 0 = λ asked. AreLetInIf (IsLinkAccepted g.S.Sockets.accepts g.S.Readiness.watches c.args.listener.now) (IsNoLinkAccepted g.S.Sockets.accepts g.S.Readiness.watches c.args.listener.now) 64 asked (c.args.sockets.now, c.args.accepted.now) true (c.loop.sockets, c.loop.accepted) in
    subst Asked (sym c.if-not-asked.false)
    (let_in-most (IsLinkAccepted g.S.Sockets.accepts g.S.Readiness.watches c.args.listener.now) (IsNoLinkAccepted g.S.Sockets.accepts g.S.Readiness.watches c.args.listener.now) 64 c.loop.counter (c.args.sockets.now, c.args.accepted.now) (c.loop.sockets, c.loop.accepted) (omega (arith, c.loop-test.false)) c.loop.invariant)

pub returns-in_err-accept_link-clause-fault : goal.returns-in_err-accept_link-clause-fault
returns-in_err-accept_link-clause-fault g c =
    on_err_any c.from_residual.result _
    (asked_over (IsAskedOnce g.S.Sockets.accepts g.S.Readiness.watches g.S.Sockets.connects g.S.Sockets.reads) c.args.sockets.now c.loop.sockets c.accept_link.new.sockets
    (links_came g.S.Sockets.accepts g.S.Readiness.watches g.S.Sockets.connects g.S.Sockets.reads c.args.listener.now c.loop.counter (c.args.sockets.now, c.args.accepted.now) (c.loop.sockets, c.loop.accepted) c.loop.invariant) c.in_err-accept_link.ensures.fault)
