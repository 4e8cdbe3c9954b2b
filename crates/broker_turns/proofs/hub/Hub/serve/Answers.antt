use Rattle.std.proofs.Common.{refl}
use Rattle.broker_turns.specs.Bridging.{near, place}
use Rattle.broker_turns.specs.Broken.{IsAskedOnce, IsBrokenOff, IsBrokenTurn}
use Rattle.broker_turns.specs.Turns.{IsStart, IsTurn, site}
use Rattle.broker_turns.proofs.Serving.{served, unserved}
use Rattle.std.proofs.Common.{inl, zero}
use Rattle.broker_turns.specs.Serving.{IsUnserved}
use Rattle.broker_turns.proofs.Serving.{failed}
use Rattle.broker_turns.proofs.hub.Hub.serve.Goals as goal

pub returns-clause-ok : goal.returns-clause-ok
returns-clause-ok g c =
    served g.C.Clock.tells (IsStart g.H.Handler.handles)
    (IsTurn g.S.Sockets.accepts g.S.Readiness.watches g.S.Sockets.connects g.S.Sockets.reads g.S.Sockets.writes g.S.Readiness.finds g.H.Handler.handles g.H.BridgeHandler.hears g.H.Handler.settles c.args.self.now.setting)
    c.make_turns.result c.args.turns c.args.clock.now c.now-at.new.self c.make_turns.new.clock
    (site (place c.args.sockets.now (near c.args.handler.now c.args.self.now.clients.slab c.args.self.now.dialled.items) c.args.self.now.accepted) c.args.self.now.ready c.args.self.now.sought.items)
    (site (place c.args.sockets.now (near c.handle_event.new.handler c.handle_event.new.clients.slab c.args.self.now.dialled.items) c.args.self.now.accepted) c.args.self.now.ready c.args.self.now.sought.items)
    (site (place c.make_turns.new.sockets (near c.make_turns.new.handler c.make_turns.new.self.clients.slab c.make_turns.new.self.dialled.items) c.make_turns.new.self.accepted) c.make_turns.new.self.ready c.make_turns.new.self.sought.items)
    (record {
      at = c.now-at.result;
      told = c.now-at.ensures;
      made = record { told = record { does = record { does = record { sockets = refl; handled = c.in_ok-handle_event.ensures.ok }; dialled = refl }; accepted = refl }; ready = refl; sought = refl };
    })
    c.make_turns.ensures.ok

pub returns-clause-fault : goal.returns-clause-fault
returns-clause-fault g c =
    unserved g.C.Clock.tells (IsStart g.H.Handler.handles)
    (IsTurn g.S.Sockets.accepts g.S.Readiness.watches g.S.Sockets.connects g.S.Sockets.reads g.S.Sockets.writes g.S.Readiness.finds g.H.Handler.handles g.H.BridgeHandler.hears g.H.Handler.settles c.args.self.now.setting)
    (λ at old. IsBrokenOff (IsAskedOnce g.S.Sockets.accepts g.S.Readiness.watches g.S.Sockets.connects g.S.Sockets.reads) g.H.Handler.handles g.H.BridgeHandler.hears g.H.Handler.refuses g.H.BridgeHandler.declines at old.place.reach.sockets old.place.reach.near.handler c.make_turns.new.sockets c.make_turns.new.handler)
    (λ at old. IsBrokenTurn g.S.Sockets.accepts g.S.Readiness.watches g.S.Sockets.connects g.S.Sockets.reads g.S.Sockets.writes g.H.Handler.handles g.H.BridgeHandler.hears g.H.Handler.settles g.H.Handler.refuses g.H.BridgeHandler.declines g.H.Handler.stops c.args.self.now.setting at old c.make_turns.new.sockets c.make_turns.new.handler)
    c.make_turns.result c.args.turns c.args.clock.now c.now-at.new.self c.make_turns.new.clock
    (site (place c.args.sockets.now (near c.args.handler.now c.args.self.now.clients.slab c.args.self.now.dialled.items) c.args.self.now.accepted) c.args.self.now.ready c.args.self.now.sought.items)
    (site (place c.args.sockets.now (near c.handle_event.new.handler c.handle_event.new.clients.slab c.args.self.now.dialled.items) c.args.self.now.accepted) c.args.self.now.ready c.args.self.now.sought.items)
    (record {
      at = c.now-at.result;
      told = c.now-at.ensures;
      made = record { told = record { does = record { does = record { sockets = refl; handled = c.in_ok-handle_event.ensures.ok }; dialled = refl }; accepted = refl }; ready = refl; sought = refl };
    })
    c.make_turns.ensures.fault

pub returns-in_err-handle_event-clause-fault : goal.returns-in_err-handle_event-clause-fault
returns-in_err-handle_event-clause-fault g c =
    failed c.from_residual.result c.in_err-handle_event.field-0.0
    (λ fault. IsUnserved g.C.Clock.tells (IsStart g.H.Handler.handles)
    (IsTurn g.S.Sockets.accepts g.S.Readiness.watches g.S.Sockets.connects g.S.Sockets.reads g.S.Sockets.writes g.S.Readiness.finds g.H.Handler.handles g.H.BridgeHandler.hears g.H.Handler.settles c.args.self.now.setting)
    (λ at old. IsBrokenOff (IsAskedOnce g.S.Sockets.accepts g.S.Readiness.watches g.S.Sockets.connects g.S.Sockets.reads) g.H.Handler.handles g.H.BridgeHandler.hears g.H.Handler.refuses g.H.BridgeHandler.declines at old.place.reach.sockets old.place.reach.near.handler c.args.sockets.now c.handle_event.new.handler)
    (λ at old. IsBrokenTurn g.S.Sockets.accepts g.S.Readiness.watches g.S.Sockets.connects g.S.Sockets.reads g.S.Sockets.writes g.H.Handler.handles g.H.BridgeHandler.hears g.H.Handler.settles g.H.Handler.refuses g.H.BridgeHandler.declines g.H.Handler.stops c.args.self.now.setting at old c.args.sockets.now c.handle_event.new.handler)
    c.args.turns c.args.clock.now (site (place c.args.sockets.now (near c.args.handler.now c.args.self.now.clients.slab c.args.self.now.dialled.items) c.args.self.now.accepted) c.args.self.now.ready c.args.self.now.sought.items) c.now-at.new.self fault)
    c.from_residual.ensures.1
    (inl (record { at = c.now-at.result; told = c.now-at.ensures; is = record { broken = c.in_err-handle_event.ensures.fault; asked = (zero, refl) } }))
