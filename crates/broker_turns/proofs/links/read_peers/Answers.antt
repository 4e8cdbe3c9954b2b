use Rattle.std.proofs.lemmas.List.{take_more}
use Rattle.broker_turns.proofs.Stepping.{EachTells-more}
use Rattle.broker_turns.specs.Bridging.{near, reach}
use Rattle.broker_turns.proofs.Breaking.{goes_over, off_err, off_memory_err, peer_goes, peers_go}
use Rattle.broker_turns.specs.Broken.{IsReadOnce}
use Rattle.broker_turns.proofs.links.read_peers.Goals as goal

pub loop-peer-preserved : goal.loop-peer-preserved
loop-peer-preserved g c =
    rw (take_more c.args.peers.now c.loop-peer.peer-index 0 c.loop-peer-test.true, c.in_ok-note_if.ensures)
    (EachTells-more _ _ _ _ _ _ _ _ c.loop-peer.invariant c.in_ok-more.ensures.ok)

pub returns-in_err-more-clause-fault : goal.returns-in_err-more-clause-fault
returns-in_err-more-clause-fault g c =
    off_err g.H.Handler.handles g.H.BridgeHandler.hears g.H.Handler.refuses g.H.BridgeHandler.declines c.args.at (IsReadOnce g.S.Sockets.reads) c.from_residual.result c.in_err-more.field-0.0 (c.args.sockets.now, c.args.handler.now) (c.loop-peer.sockets, c.loop-peer.handler) (c.read_peer.new.sockets, c.read_peer.new.handler)
    c.from_residual.ensures.1 (peers_go g.S.Sockets.reads g.H.Handler.handles g.H.BridgeHandler.hears c.args.at _ (reach c.args.sockets.now (near c.args.handler.now c.args.clients.now.slab c.args.links.now)) _ (reach c.loop-peer.sockets (near c.loop-peer.handler c.loop-peer.clients.slab c.loop-peer.links)) c.loop-peer.invariant) c.in_err-more.ensures.fault

pub returns-in_err-note_if-clause-fault : goal.returns-in_err-note_if-clause-fault
returns-in_err-note_if-clause-fault g c =
    let before = peers_go g.S.Sockets.reads g.H.Handler.handles g.H.BridgeHandler.hears c.args.at _ (reach c.args.sockets.now (near c.args.handler.now c.args.clients.now.slab c.args.links.now)) _ (reach c.loop-peer.sockets (near c.loop-peer.handler c.loop-peer.clients.slab c.loop-peer.links)) c.loop-peer.invariant in
    let one = peer_goes g.S.Sockets.reads g.H.Handler.handles g.H.BridgeHandler.hears c.args.at _ (reach c.loop-peer.sockets (near c.loop-peer.handler c.loop-peer.clients.slab c.loop-peer.links)) _ (reach c.read_peer.new.sockets (near c.read_peer.new.handler c.read_peer.new.clients.slab c.read_peer.new.links)) c.in_ok-more.ensures.ok in
    off_memory_err g.H.Handler.handles g.H.BridgeHandler.hears g.H.Handler.refuses g.H.BridgeHandler.declines c.args.at (IsReadOnce g.S.Sockets.reads) c.from_residual-in_err-note_if.result (c.args.sockets.now, c.args.handler.now) (c.read_peer.new.sockets, c.read_peer.new.handler)
    c.from_residual-in_err-note_if.ensures.1 (goes_over g.H.Handler.handles g.H.BridgeHandler.hears (IsReadOnce g.S.Sockets.reads) (c.args.sockets.now, c.args.handler.now) (c.loop-peer.sockets, c.loop-peer.handler) (c.read_peer.new.sockets, c.read_peer.new.handler) before one)
