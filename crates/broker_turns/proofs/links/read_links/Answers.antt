use Rattle.std.proofs.lemmas.List.{take_more}
use Rattle.broker_turns.proofs.Stepping.{EachTells-more}
use Rattle.broker_turns.specs.Bridging.{near, place}
use Rattle.broker_turns.proofs.Breaking.{goes_over, link_goes, links_go, off_err, off_memory_err}
use Rattle.broker_turns.specs.Broken.{IsReadOnce}
use Rattle.broker_turns.proofs.links.read_links.Goals as goal

pub loop-key-preserved : goal.loop-key-preserved
loop-key-preserved g c =
    rw (take_more c.args.keys.now c.loop-key.key-index 0 c.loop-key-test.true, c.in_ok-note_if.ensures)
    (EachTells-more _ _ _ _ _ _ _ _ c.loop-key.invariant c.in_ok-more.ensures.ok)

pub returns-in_err-more-clause-fault : goal.returns-in_err-more-clause-fault
returns-in_err-more-clause-fault g c =
    off_err g.H.Handler.handles g.H.BridgeHandler.hears g.H.Handler.refuses g.H.BridgeHandler.declines c.args.at (IsReadOnce g.S.Sockets.reads) c.from_residual.result c.in_err-more.field-0.0 (c.args.sockets.now, c.args.handler.now) (c.loop-key.sockets, c.loop-key.handler) (c.read_link.new.sockets, c.read_link.new.handler)
    c.from_residual.ensures.1 (links_go g.S.Sockets.reads g.H.Handler.handles g.H.BridgeHandler.hears c.args.at _ (place c.args.sockets.now (near c.args.handler.now c.args.clients.now.slab c.args.links.now) c.args.accepted.now) _ (place c.loop-key.sockets (near c.loop-key.handler c.loop-key.clients.slab c.loop-key.links) c.loop-key.accepted) c.loop-key.invariant) c.in_err-more.ensures.fault

pub returns-in_err-note_if-clause-fault : goal.returns-in_err-note_if-clause-fault
returns-in_err-note_if-clause-fault g c =
    let before = links_go g.S.Sockets.reads g.H.Handler.handles g.H.BridgeHandler.hears c.args.at _ (place c.args.sockets.now (near c.args.handler.now c.args.clients.now.slab c.args.links.now) c.args.accepted.now) _ (place c.loop-key.sockets (near c.loop-key.handler c.loop-key.clients.slab c.loop-key.links) c.loop-key.accepted) c.loop-key.invariant in
    let one = link_goes g.S.Sockets.reads g.H.Handler.handles g.H.BridgeHandler.hears c.args.at _ (place c.loop-key.sockets (near c.loop-key.handler c.loop-key.clients.slab c.loop-key.links) c.loop-key.accepted) _ (place c.read_link.new.sockets (near c.read_link.new.handler c.read_link.new.clients.slab c.read_link.new.links) c.read_link.new.accepted) c.in_ok-more.ensures.ok in
    off_memory_err g.H.Handler.handles g.H.BridgeHandler.hears g.H.Handler.refuses g.H.BridgeHandler.declines c.args.at (IsReadOnce g.S.Sockets.reads) c.from_residual-in_err-note_if.result (c.args.sockets.now, c.args.handler.now) (c.read_link.new.sockets, c.read_link.new.handler)
    c.from_residual-in_err-note_if.ensures.1 (goes_over g.H.Handler.handles g.H.BridgeHandler.hears (IsReadOnce g.S.Sockets.reads) (c.args.sockets.now, c.args.handler.now) (c.loop-key.sockets, c.loop-key.handler) (c.read_link.new.sockets, c.read_link.new.handler) before one)
