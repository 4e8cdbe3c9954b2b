use Rattle.std.proofs.Common.{Bool, false, refl, subst}
use Rattle.broker_sockets.specs.declared.ready.Watched.TheVariants.{Client}
use Rattle.broker_turns.proofs.Breaking.{came_and_watched, off_memory_err, off_told_err, tells_client, tells_none}
use Rattle.broker_turns.specs.Broken.{IsAskedOnce}
use Rattle.broker_turns.proofs.turn.accept_one.Goals as goal

pub returns-then-not-watch-clause-ok : goal.returns-then-not-watch-clause-ok
returns-then-not-watch-clause-ok g c =
    let Watches : Bool → Type 0 = λ watchable. g.S.Readiness.watches c.accept.new.self c.in-Some.stream (Client c.next_key.result) watchable c.watch.new.self in
    record {
      stream = c.in-Some.stream;
      asked = c.accept.new.self;
      answered = c.in-Some.ensures;
      key = c.next_key.result;
      free = c.next_key.ensures.free;
      watchable = false;
      watch = subst Watches c.if-not-watch.true c.watch.ensures.watched;
      welcomed = (refl, refl);
    }

pub returns-in_err-key-clause-fault : goal.returns-in_err-key-clause-fault
returns-in_err-key-clause-fault g c =
    let h = c.args.handler.now in
    let came = came_and_watched g.S.Sockets.accepts g.S.Readiness.watches g.S.Sockets.connects g.S.Sockets.reads c.args.listener.now c.in-Some.stream (Client c.next_key.result) c.watch.result c.args.sockets.now c.accept.new.self c.watch.new.self c.in-Some.ensures c.watch.ensures.watched in
    off_memory_err g.H.Handler.handles g.H.BridgeHandler.hears g.H.Handler.refuses g.H.BridgeHandler.declines c.args.at (IsAskedOnce g.S.Sockets.accepts g.S.Readiness.watches g.S.Sockets.connects g.S.Sockets.reads) c.from_residual.result (c.args.sockets.now, h) (c.watch.new.self, h) c.from_residual.ensures.1 (tells_none g.H.Handler.handles g.H.BridgeHandler.hears h h refl, came)

pub returns-in_err-handle_event-clause-fault : goal.returns-in_err-handle_event-clause-fault
returns-in_err-handle_event-clause-fault g c =
    let h = c.args.handler.now in
    let came = came_and_watched g.S.Sockets.accepts g.S.Readiness.watches g.S.Sockets.connects g.S.Sockets.reads c.args.listener.now c.in-Some.stream (Client c.next_key.result) c.watch.result c.args.sockets.now c.accept.new.self c.watch.new.self c.in-Some.ensures c.watch.ensures.watched in
    off_told_err g.H.Handler.handles g.H.BridgeHandler.hears g.H.Handler.refuses g.H.BridgeHandler.declines c.args.at (IsAskedOnce g.S.Sockets.accepts g.S.Readiness.watches g.S.Sockets.connects g.S.Sockets.reads) c.from_residual-in_err-handle_event.result c.in_err-handle_event.field-0.0 (c.args.sockets.now, h) c.watch.new.self h c.handle_event.new.handler
    c.from_residual-in_err-handle_event.ensures.1 (tells_none g.H.Handler.handles g.H.BridgeHandler.hears h h refl, came) c.in_err-handle_event.ensures.fault

pub returns-in_err-make_room-clause-fault : goal.returns-in_err-make_room-clause-fault
returns-in_err-make_room-clause-fault g c =
    let h = c.args.handler.now in
    let m = c.handle_event.new.handler in
    let came = came_and_watched g.S.Sockets.accepts g.S.Readiness.watches g.S.Sockets.connects g.S.Sockets.reads c.args.listener.now c.in-Some.stream (Client c.next_key.result) c.watch.result c.args.sockets.now c.accept.new.self c.watch.new.self c.in-Some.ensures c.watch.ensures.watched in
    let told = c.in_ok-handle_event.ensures.ok in
    off_told_err g.H.Handler.handles g.H.BridgeHandler.hears g.H.Handler.refuses g.H.BridgeHandler.declines c.args.at (IsAskedOnce g.S.Sockets.accepts g.S.Readiness.watches g.S.Sockets.connects g.S.Sockets.reads) c.from_residual-in_err-make_room.result c.in_err-make_room.field-0.0 (c.args.sockets.now, h) c.watch.new.self m c.make_room.new.handler
    c.from_residual-in_err-make_room.ensures.1 (tells_client g.H.Handler.handles g.H.BridgeHandler.hears h _ told.outputs m told.answered, came) c.in_err-make_room.ensures.fault
