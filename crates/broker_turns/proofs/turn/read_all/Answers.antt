use Rattle.std.proofs.lemmas.List.{take_more}
use Rattle.broker_turns.proofs.Stepping.{EachTells-more}
use Rattle.broker_turns.specs.Connections.{world}
use Rattle.broker_turns.proofs.Breaking.{goes_over, off_err, off_memory_err, read_goes, reads_go}
use Rattle.broker_turns.specs.Broken.{IsReadOnce}
use Rattle.broker_turns.proofs.turn.read_all.Goals as goal

pub loop-key-preserved : goal.loop-key-preserved
loop-key-preserved g c =
    rw (take_more c.args.keys.now c.loop-key.key-index 0 c.loop-key-test.true, c.in_ok-note_if.ensures)
    (EachTells-more _ _ _ _ _ _ _ _ c.loop-key.invariant c.in_ok-more.ensures.ok)

pub returns-in_err-more-clause-fault : goal.returns-in_err-more-clause-fault
returns-in_err-more-clause-fault g c =
    off_err g.H.Handler.handles g.H.BridgeHandler.hears g.H.Handler.refuses g.H.BridgeHandler.declines c.args.at (IsReadOnce g.S.Sockets.reads) c.from_residual.result c.in_err-more.field-0.0 (c.args.sockets.now, c.args.handler.now) (c.loop-key.sockets, c.loop-key.handler) (c.read_one.new.sockets, c.read_one.new.handler)
    c.from_residual.ensures.1 (reads_go g.S.Sockets.reads g.H.Handler.handles g.H.BridgeHandler.hears c.args.at _ (world c.args.sockets.now c.args.handler.now c.args.clients.now.slab) _ (world c.loop-key.sockets c.loop-key.handler c.loop-key.clients.slab) c.loop-key.invariant) c.in_err-more.ensures.fault

pub returns-in_err-note_if-clause-fault : goal.returns-in_err-note_if-clause-fault
returns-in_err-note_if-clause-fault g c =
    let before = reads_go g.S.Sockets.reads g.H.Handler.handles g.H.BridgeHandler.hears c.args.at _ (world c.args.sockets.now c.args.handler.now c.args.clients.now.slab) _ (world c.loop-key.sockets c.loop-key.handler c.loop-key.clients.slab) c.loop-key.invariant in
    let one = read_goes g.S.Sockets.reads g.H.Handler.handles g.H.BridgeHandler.hears c.args.at _ (world c.loop-key.sockets c.loop-key.handler c.loop-key.clients.slab) _ (world c.read_one.new.sockets c.read_one.new.handler c.read_one.new.clients.slab) c.in_ok-more.ensures.ok in
    off_memory_err g.H.Handler.handles g.H.BridgeHandler.hears g.H.Handler.refuses g.H.BridgeHandler.declines c.args.at (IsReadOnce g.S.Sockets.reads) c.from_residual-in_err-note_if.result (c.args.sockets.now, c.args.handler.now) (c.read_one.new.sockets, c.read_one.new.handler)
    c.from_residual-in_err-note_if.ensures.1 (goes_over g.H.Handler.handles g.H.BridgeHandler.hears (IsReadOnce g.S.Sockets.reads) (c.args.sockets.now, c.args.handler.now) (c.loop-key.sockets, c.loop-key.handler) (c.read_one.new.sockets, c.read_one.new.handler) before one)
