use Rattle.broker_turns.proofs.Stepping.{EachBelow-more}
use Rattle.broker_turns.specs.Bridging.{near}
use Rattle.broker_turns.proofs.Breaking.{broken_err, shipped_all}
use Rattle.broker_turns.proofs.links.ship_all.Goals as goal

pub loop-peer-preserved : goal.loop-peer-preserved
loop-peer-preserved g c = EachBelow-more _ _ _ _ _ c.loop-peer.invariant c.in_ok-ship_to.ensures.ok

pub returns-in_err-ship_to-clause-fault : goal.returns-in_err-ship_to-clause-fault
returns-in_err-ship_to-clause-fault g c =
    broken_err g.H.Handler.handles g.H.BridgeHandler.hears g.H.Handler.refuses g.H.BridgeHandler.declines c.args.at c.from_residual.result c.in_err-ship_to.field-0.0 c.args.handler.now c.loop-peer.handler c.ship_to.new.handler c.from_residual.ensures.1
    (shipped_all g.H.Handler.handles g.H.BridgeHandler.hears c.args.at _ (near c.args.handler.now c.args.clients.now.slab c.args.links.now) (near c.loop-peer.handler c.loop-peer.clients.slab c.loop-peer.links) c.loop-peer.invariant) c.in_err-ship_to.ensures.fault
