use Rattle.broker_turns.proofs.Linking.{HearsAll-more}
use Rattle.broker_turns.specs.Bridging.{near}
use Rattle.broker_turns.proofs.Breaking.{broken_err, frames_heard}
use Rattle.broker_turns.proofs.links.hear_all.Goals as goal

pub loop-bytes-preserved : goal.loop-bytes-preserved
loop-bytes-preserved g c = HearsAll-more _ _ _ _ _ _ _ c.loop-bytes.invariant c.in_ok-hear_frame.ensures.ok

pub returns-in_err-hear_frame-clause-fault : goal.returns-in_err-hear_frame-clause-fault
returns-in_err-hear_frame-clause-fault g c =
    broken_err g.H.Handler.handles g.H.BridgeHandler.hears g.H.Handler.refuses g.H.BridgeHandler.declines c.args.at c.from_residual.result c.in_err-hear_frame.field-0.0 c.args.handler.now c.loop-bytes.handler c.hear_frame.new.handler c.from_residual.ensures.1
    (frames_heard g.H.Handler.handles g.H.BridgeHandler.hears c.args.at _ (near c.args.handler.now c.args.clients.now.slab c.args.links.now) (near c.loop-bytes.handler c.loop-bytes.clients.slab c.loop-bytes.links) c.loop-bytes.invariant) c.in_err-hear_frame.ensures.fault
