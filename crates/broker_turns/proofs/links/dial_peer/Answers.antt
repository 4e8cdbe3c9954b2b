use Rattle.std.proofs.lemmas.Result.{IfErr-weaker}
use Rattle.std.proofs.Common.{refl}
use Rattle.broker_turns.proofs.Breaking.{begun_asks, off_told, tells_none}
use Rattle.broker_turns.specs.Broken.{IsAskedOnce}
use Rattle.broker_turns.proofs.links.dial_peer.Goals as goal

pub returns-clause-fault : goal.returns-clause-fault
returns-clause-fault g c =
    let h = c.args.handler.now in
    IfErr-weaker c.hear_one.result _ _
    (λ fault broken. off_told g.H.Handler.handles g.H.BridgeHandler.hears g.H.Handler.refuses g.H.BridgeHandler.declines c.args.at (IsAskedOnce g.S.Sockets.accepts g.S.Readiness.watches g.S.Sockets.connects g.S.Sockets.reads) (c.args.sockets.now, h) c.dial.new.sockets h c.hear_one.new.handler fault
    (tells_none g.H.Handler.handles g.H.BridgeHandler.hears h h refl, begun_asks g.S.Sockets.accepts g.S.Readiness.watches g.S.Sockets.connects g.S.Sockets.reads _ _ c.args.sockets.now _ c.dial.new.sockets c.in-Some.ensures) broken)
    c.hear_one.ensures.fault
