use Rattle.std.proofs.Common.{◌≡◌, List, Option, length, refl, subst, arith}
use Rattle.std.proofs.lemmas.Result.{IfErr-weaker, on_ok_weaker}
use Rattle.std.specs.declared.net.socket_addr.SocketAddr.{SocketAddr}
use Rattle.broker_turns.specs.Bridging.{IsSought, near, reach, search}
use Rattle.broker_turns.specs.Steps.{EachBelow}
use Rattle.broker_turns.proofs.Stepping.{counted}
use Rattle.std.proofs.Common.{inl, inr}
use Rattle.broker_turns.specs.Broken.{IsAskedOnce, IsUndecided}
use Rattle.broker_turns.proofs.Breaking.{all_sought, off_told, shipped_all, tells_client, told_more}
use Rattle.broker_turns.proofs.Serving.{failed}
use Rattle.broker_turns.proofs.hub.decide.Goals as goal

pub returns-clause-ok : goal.returns-clause-ok
returns-clause-ok g c =
    let reached = search c.dial_peers.new.sockets (near c.dial_peers.new.handler c.dial_peers.new.clients.slab c.dial_peers.new.links) c.dial_peers.new.sought in
    let Dials : List (Option SocketAddr) → Type 0 = λ peers. EachBelow (IsSought g.S.Sockets.connects g.S.Readiness.watches g.H.BridgeHandler.hears c.args.at peers) (length peers)
    (search c.args.sockets.now (near c.args.handler.now c.args.clients.now.slab c.args.dialled.now) c.args.sought.now) reached in
    let e : length c.dial_peers.new.links ≡ length c.args.setting.now.peers.items = omega (arith, c.requires.one_each) in
    on_ok_weaker c.settle.result
    (λ settled. record {
      reached = reached;
      dialled = subst Dials c.deref.ensures.value c.in_ok-dial_peers.ensures.ok;
      told = reach c.dial_peers.new.sockets (near c.handle_event.new.handler c.handle_event.new.clients.slab c.dial_peers.new.links);
      ticked = record { does = record { sockets = refl; handled = c.in_ok-handle_event.ensures.ok }; dialled = refl };
      supplied = reach c.dial_peers.new.sockets (near c.ship_all.new.handler c.ship_all.new.clients.slab c.ship_all.new.links);
      shipped = record { does = counted _ _ _ _ _ e c.in_ok-ship_all.ensures.ok; sockets = refl };
      roomed = reach c.dial_peers.new.sockets (near c.make_rooms.new.handler c.make_rooms.new.clients.slab c.ship_all.new.links);
      rooms_made = record { does = c.in_ok-make_rooms.ensures.ok; sockets = refl; dialled = refl };
      settled = record { does = record { does = settled; clients = refl; dialled = refl }; sockets = refl };
      sought = refl;
    })
    c.settle.ensures.ok

pub returns-in_err-dial_peers-clause-fault : goal.returns-in_err-dial_peers-clause-fault
returns-in_err-dial_peers-clause-fault g c =
    failed c.from_residual.result c.in_err-dial_peers.field-0.0 (λ fault. IsUndecided g.S.Sockets.accepts g.S.Readiness.watches g.S.Sockets.connects g.S.Sockets.reads g.H.Handler.handles g.H.BridgeHandler.hears g.H.Handler.refuses g.H.BridgeHandler.declines g.H.Handler.stops c.args.setting.now c.args.at (search c.args.sockets.now (near c.args.handler.now c.args.clients.now.slab c.args.dialled.now) c.args.sought.now) (search c.dial_peers.new.sockets (near c.dial_peers.new.handler c.dial_peers.new.clients.slab c.dial_peers.new.links) c.dial_peers.new.sought) fault)
    c.from_residual.ensures.1 (inl c.in_err-dial_peers.ensures.fault)

pub returns-in_err-handle_event-clause-fault : goal.returns-in_err-handle_event-clause-fault
returns-in_err-handle_event-clause-fault g c =
    let dialled = all_sought g.S.Sockets.accepts g.S.Readiness.watches g.S.Sockets.connects g.S.Sockets.reads g.H.Handler.handles g.H.BridgeHandler.hears c.args.at _ _ (search c.args.sockets.now (near c.args.handler.now c.args.clients.now.slab c.args.dialled.now) c.args.sought.now)
    (search c.dial_peers.new.sockets (near c.dial_peers.new.handler c.dial_peers.new.clients.slab c.dial_peers.new.links) c.dial_peers.new.sought) c.in_ok-dial_peers.ensures.ok in
    failed c.from_residual-in_err-handle_event.result c.in_err-handle_event.field-0.0 (λ fault. IsUndecided g.S.Sockets.accepts g.S.Readiness.watches g.S.Sockets.connects g.S.Sockets.reads g.H.Handler.handles g.H.BridgeHandler.hears g.H.Handler.refuses g.H.BridgeHandler.declines g.H.Handler.stops c.args.setting.now c.args.at (search c.args.sockets.now (near c.args.handler.now c.args.clients.now.slab c.args.dialled.now) c.args.sought.now) (search c.dial_peers.new.sockets (near c.handle_event.new.handler c.handle_event.new.clients.slab c.dial_peers.new.links) c.dial_peers.new.sought) fault)
    c.from_residual-in_err-handle_event.ensures.1
    (inl (off_told g.H.Handler.handles g.H.BridgeHandler.hears g.H.Handler.refuses g.H.BridgeHandler.declines c.args.at (IsAskedOnce g.S.Sockets.accepts g.S.Readiness.watches g.S.Sockets.connects g.S.Sockets.reads) (c.args.sockets.now, c.args.handler.now) c.dial_peers.new.sockets c.dial_peers.new.handler c.handle_event.new.handler c.in_err-handle_event.field-0.0 dialled c.in_err-handle_event.ensures.fault))

pub returns-in_err-ship_all-clause-fault : goal.returns-in_err-ship_all-clause-fault
returns-in_err-ship_all-clause-fault g c =
    let dialled = all_sought g.S.Sockets.accepts g.S.Readiness.watches g.S.Sockets.connects g.S.Sockets.reads g.H.Handler.handles g.H.BridgeHandler.hears c.args.at _ _ (search c.args.sockets.now (near c.args.handler.now c.args.clients.now.slab c.args.dialled.now) c.args.sought.now)
    (search c.dial_peers.new.sockets (near c.dial_peers.new.handler c.dial_peers.new.clients.slab c.dial_peers.new.links) c.dial_peers.new.sought) c.in_ok-dial_peers.ensures.ok in
    let tick = c.in_ok-handle_event.ensures.ok in
    let ticked = told_more g.H.Handler.handles g.H.BridgeHandler.hears (IsAskedOnce g.S.Sockets.accepts g.S.Readiness.watches g.S.Sockets.connects g.S.Sockets.reads) (c.args.sockets.now, c.args.handler.now) (c.dial_peers.new.sockets, c.dial_peers.new.handler) c.handle_event.new.handler dialled (tells_client g.H.Handler.handles g.H.BridgeHandler.hears c.dial_peers.new.handler _ tick.outputs c.handle_event.new.handler tick.answered) in
    failed c.from_residual-in_err-ship_all.result c.in_err-ship_all.field-0.0 (λ fault. IsUndecided g.S.Sockets.accepts g.S.Readiness.watches g.S.Sockets.connects g.S.Sockets.reads g.H.Handler.handles g.H.BridgeHandler.hears g.H.Handler.refuses g.H.BridgeHandler.declines g.H.Handler.stops c.args.setting.now c.args.at (search c.args.sockets.now (near c.args.handler.now c.args.clients.now.slab c.args.dialled.now) c.args.sought.now) (search c.dial_peers.new.sockets (near c.ship_all.new.handler c.ship_all.new.clients.slab c.ship_all.new.links) c.dial_peers.new.sought) fault)
    c.from_residual-in_err-ship_all.ensures.1
    (inl (off_told g.H.Handler.handles g.H.BridgeHandler.hears g.H.Handler.refuses g.H.BridgeHandler.declines c.args.at (IsAskedOnce g.S.Sockets.accepts g.S.Readiness.watches g.S.Sockets.connects g.S.Sockets.reads) (c.args.sockets.now, c.args.handler.now) c.dial_peers.new.sockets c.handle_event.new.handler c.ship_all.new.handler c.in_err-ship_all.field-0.0 ticked c.in_err-ship_all.ensures.fault))

pub returns-in_err-make_rooms-clause-fault : goal.returns-in_err-make_rooms-clause-fault
returns-in_err-make_rooms-clause-fault g c =
    let dialled = all_sought g.S.Sockets.accepts g.S.Readiness.watches g.S.Sockets.connects g.S.Sockets.reads g.H.Handler.handles g.H.BridgeHandler.hears c.args.at _ _ (search c.args.sockets.now (near c.args.handler.now c.args.clients.now.slab c.args.dialled.now) c.args.sought.now)
    (search c.dial_peers.new.sockets (near c.dial_peers.new.handler c.dial_peers.new.clients.slab c.dial_peers.new.links) c.dial_peers.new.sought) c.in_ok-dial_peers.ensures.ok in
    let tick = c.in_ok-handle_event.ensures.ok in
    let ticked = told_more g.H.Handler.handles g.H.BridgeHandler.hears (IsAskedOnce g.S.Sockets.accepts g.S.Readiness.watches g.S.Sockets.connects g.S.Sockets.reads) (c.args.sockets.now, c.args.handler.now) (c.dial_peers.new.sockets, c.dial_peers.new.handler) c.handle_event.new.handler dialled (tells_client g.H.Handler.handles g.H.BridgeHandler.hears c.dial_peers.new.handler _ tick.outputs c.handle_event.new.handler tick.answered) in
    let shipped = told_more g.H.Handler.handles g.H.BridgeHandler.hears (IsAskedOnce g.S.Sockets.accepts g.S.Readiness.watches g.S.Sockets.connects g.S.Sockets.reads) (c.args.sockets.now, c.args.handler.now) (c.dial_peers.new.sockets, c.handle_event.new.handler) c.ship_all.new.handler ticked
    (shipped_all g.H.Handler.handles g.H.BridgeHandler.hears c.args.at _ (near c.handle_event.new.handler c.handle_event.new.clients.slab c.dial_peers.new.links) (near c.ship_all.new.handler c.ship_all.new.clients.slab c.ship_all.new.links) c.in_ok-ship_all.ensures.ok) in
    failed c.from_residual-in_err-make_rooms.result c.in_err-make_rooms.field-0.0 (λ fault. IsUndecided g.S.Sockets.accepts g.S.Readiness.watches g.S.Sockets.connects g.S.Sockets.reads g.H.Handler.handles g.H.BridgeHandler.hears g.H.Handler.refuses g.H.BridgeHandler.declines g.H.Handler.stops c.args.setting.now c.args.at (search c.args.sockets.now (near c.args.handler.now c.args.clients.now.slab c.args.dialled.now) c.args.sought.now) (search c.dial_peers.new.sockets (near c.make_rooms.new.handler c.make_rooms.new.clients.slab c.ship_all.new.links) c.dial_peers.new.sought) fault)
    c.from_residual-in_err-make_rooms.ensures.1
    (inl (off_told g.H.Handler.handles g.H.BridgeHandler.hears g.H.Handler.refuses g.H.BridgeHandler.declines c.args.at (IsAskedOnce g.S.Sockets.accepts g.S.Readiness.watches g.S.Sockets.connects g.S.Sockets.reads) (c.args.sockets.now, c.args.handler.now) c.dial_peers.new.sockets c.ship_all.new.handler c.make_rooms.new.handler c.in_err-make_rooms.field-0.0 shipped c.in_err-make_rooms.ensures.fault))

pub returns-clause-fault : goal.returns-clause-fault
returns-clause-fault g c =
    let reached = search c.dial_peers.new.sockets (near c.dial_peers.new.handler c.dial_peers.new.clients.slab c.dial_peers.new.links) c.dial_peers.new.sought in
    let Dials : List (Option SocketAddr) → Type 0 = λ peers. EachBelow (IsSought g.S.Sockets.connects g.S.Readiness.watches g.H.BridgeHandler.hears c.args.at peers) (length peers)
    (search c.args.sockets.now (near c.args.handler.now c.args.clients.now.slab c.args.dialled.now) c.args.sought.now) reached in
    let e : length c.dial_peers.new.links ≡ length c.args.setting.now.peers.items = omega (arith, c.requires.one_each) in
    IfErr-weaker c.settle.result _ (λ fault. IsUndecided g.S.Sockets.accepts g.S.Readiness.watches g.S.Sockets.connects g.S.Sockets.reads g.H.Handler.handles g.H.BridgeHandler.hears g.H.Handler.refuses g.H.BridgeHandler.declines g.H.Handler.stops c.args.setting.now c.args.at (search c.args.sockets.now (near c.args.handler.now c.args.clients.now.slab c.args.dialled.now) c.args.sought.now) (search c.dial_peers.new.sockets (near c.settle.new.handler c.make_rooms.new.clients.slab c.ship_all.new.links) c.dial_peers.new.sought) fault)
    (λ fault stopped. inr (record {
      reached = reached;
      dialled = subst Dials c.deref.ensures.value c.in_ok-dial_peers.ensures.ok;
      told = reach c.dial_peers.new.sockets (near c.handle_event.new.handler c.handle_event.new.clients.slab c.dial_peers.new.links);
      ticked = record { does = record { sockets = refl; handled = c.in_ok-handle_event.ensures.ok }; dialled = refl };
      supplied = reach c.dial_peers.new.sockets (near c.ship_all.new.handler c.ship_all.new.clients.slab c.ship_all.new.links);
      shipped = record { does = counted _ _ _ _ _ e c.in_ok-ship_all.ensures.ok; sockets = refl };
      roomed = reach c.dial_peers.new.sockets (near c.make_rooms.new.handler c.make_rooms.new.clients.slab c.ship_all.new.links);
      rooms_made = record { does = c.in_ok-make_rooms.ensures.ok; sockets = refl; dialled = refl };
      settled = record { does = record { does = stopped; clients = refl; dialled = refl }; sockets = refl };
      sought = refl;
    }))
    c.settle.ensures.fault
