use Rattle.std.proofs.lemmas.List.{take_more}
use Rattle.broker_turns.proofs.Stepping.{Each-more}
use Rattle.broker_turns.proofs.Breaking.{broken_err, rooms_tell}
use Rattle.broker_turns.proofs.turn.tell_rooms.Goals as goal

pub loop-key-preserved : goal.loop-key-preserved
loop-key-preserved g c =
    rw (take_more c.args.keys.now c.loop-key.key-index 0 c.loop-key-test.true)
    (Each-more _ _ _ _ _ _ c.loop-key.invariant c.in_ok-make_room.ensures.ok)

pub returns-in_err-make_room-clause-fault : goal.returns-in_err-make_room-clause-fault
returns-in_err-make_room-clause-fault g c =
    broken_err g.H.Handler.handles g.H.BridgeHandler.hears g.H.Handler.refuses g.H.BridgeHandler.declines c.args.at c.from_residual.result c.in_err-make_room.field-0.0 c.args.handler.now c.loop-key.handler c.make_room.new.handler c.from_residual.ensures.1
    (rooms_tell g.H.Handler.handles g.H.BridgeHandler.hears c.args.at _ (c.args.handler.now, c.args.clients.now.slab) (c.loop-key.handler, c.loop-key.clients.slab) c.loop-key.invariant) c.in_err-make_room.ensures.fault
