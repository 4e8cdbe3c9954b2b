use Rattle.broker_turns.proofs.Stepping.{EachBelow-more}
use Rattle.broker_turns.specs.Bridging.{near, search}
use Rattle.broker_turns.proofs.Breaking.{all_sought, off_err}
use Rattle.broker_turns.specs.Broken.{IsAskedOnce}
use Rattle.broker_turns.proofs.links.dial_peers.Goals as goal

pub loop-peer-preserved : goal.loop-peer-preserved
loop-peer-preserved g c = EachBelow-more _ _ _ _ _ c.loop-peer.invariant c.in_ok-seek_peer.ensures.ok

pub returns-in_err-seek_peer-clause-fault : goal.returns-in_err-seek_peer-clause-fault
returns-in_err-seek_peer-clause-fault g c =
    off_err g.H.Handler.handles g.H.BridgeHandler.hears g.H.Handler.refuses g.H.BridgeHandler.declines c.args.at (IsAskedOnce g.S.Sockets.accepts g.S.Readiness.watches g.S.Sockets.connects g.S.Sockets.reads) c.from_residual.result c.in_err-seek_peer.field-0.0 (c.args.sockets.now, c.args.handler.now) (c.loop-peer.sockets, c.loop-peer.handler) (c.seek_peer.new.sockets, c.seek_peer.new.handler)
    c.from_residual.ensures.1 (all_sought g.S.Sockets.accepts g.S.Readiness.watches g.S.Sockets.connects g.S.Sockets.reads g.H.Handler.handles g.H.BridgeHandler.hears c.args.at c.args.peers.now _ (search c.args.sockets.now (near c.args.handler.now c.args.clients.now.slab c.args.links.now) c.args.sought.now) (search c.loop-peer.sockets (near c.loop-peer.handler c.loop-peer.clients.slab c.loop-peer.links) c.loop-peer.sought) c.loop-peer.invariant) c.in_err-seek_peer.ensures.fault
