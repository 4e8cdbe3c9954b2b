use Rattle.std.proofs.Common.{ℕ, List, refl, subst}
use Rattle.broker_turns.specs.Bridging.{IsHeardFrom, IsPeerRead, near, place, reach}
use Rattle.broker_turns.specs.Connections.{IsRead, world}
use Rattle.broker_turns.specs.Steps.{EachTells}
use Rattle.broker_turns.proofs.Stepping.{either-first, either-second}
use Rattle.broker_turns.proofs.hub.take_in.Goals.{then-came, else-came}
use Rattle.broker_turns.specs.Broken.{IsAskedOnce}
use Rattle.broker_turns.proofs.Breaking.{as_moves, goes_over, let_in_goes, links_go, links_let_in, off_err, off_memory_err, off_moves, reads_go, tells_none}
use Rattle.broker_turns.proofs.hub.take_in.Goals as goal

pub returns-clause-ok : goal.returns-clause-ok
returns-clause-ok g c =
    let d = c.args.dialled.now in
    let joined = place c.accept_some.new.sockets (near c.accept_some.new.handler c.accept_some.new.clients.slab d) c.args.accepted.now in
    let met = place c.accept_links.new.sockets (near c.accept_some.new.handler c.accept_some.new.clients.slab d) c.accept_links.new.accepted in
    let heard = place c.read_all.new.sockets (near c.read_all.new.handler c.read_all.new.clients.slab d) c.accept_links.new.accepted in
    let listened = place c.read_links.new.sockets (near c.read_links.new.handler c.read_links.new.clients.slab c.read_links.new.links) c.read_links.new.accepted in
    let last = reach c.read_peers.new.sockets (near c.read_peers.new.handler c.read_peers.new.clients.slab c.read_peers.new.links) in
    let Reads : List ℕ → Type 0 = λ keys. EachTells (IsRead g.S.Sockets.reads g.H.Handler.handles c.args.at) keys
    (world c.accept_links.new.sockets c.accept_some.new.handler c.accept_some.new.clients.slab) c.in_ok-clients_left.clients_left.items
    (world c.read_all.new.sockets c.read_all.new.handler c.read_all.new.clients.slab) in
    let Links : List ℕ → Type 0 = λ keys. EachTells (IsHeardFrom g.S.Sockets.reads g.H.BridgeHandler.hears c.args.at) keys heard c.in_ok-links.links.items listened in
    let Peers : List ℕ → Type 0 = λ keys. EachTells (IsPeerRead g.S.Sockets.reads g.H.BridgeHandler.hears c.args.at) keys listened.reach c.in_ok-peers.peers.items last in
    record {
      came = c.in_ok-came.came;
      joined = joined;
      accepted = record { does = record { does = c.in_ok-came.ensures.ok; dialled = refl }; accepted = refl };
      linked = c.in_ok-linked.linked;
      met = met;
      links_accepted = record { does = c.in_ok-linked.ensures.ok; near = refl };
      listeners = elim c.if-came.branch [
        | then-came w ↦ either-first c.in_ok-came.came c.in_ok-linked.linked c.if-came.result w.if-came.true w.result-is
        | else-came w ↦ either-second c.in_ok-came.came c.in_ok-linked.linked c.if-came.result w.if-came.false w.result-is
      ];
      heard = heard;
      read = record { does = record { does = subst Reads c.deref.ensures.value c.in_ok-clients_left.ensures.ok; dialled = refl }; accepted = refl };
      listened = listened;
      links_read = subst Links c.deref-2.ensures.value c.in_ok-links.ensures.ok;
      peers_read = record { does = subst Peers c.deref-3.ensures.value c.in_ok-peers.ensures.ok; accepted = refl };
    }

pub returns-in_err-linked-clause-fault : goal.returns-in_err-linked-clause-fault
returns-in_err-linked-clause-fault g c =
    let came = let_in_goes g.S.Sockets.accepts g.S.Readiness.watches g.S.Sockets.connects g.S.Sockets.reads g.H.Handler.handles g.H.BridgeHandler.hears c.args.at c.args.setting.now.listener c.args.ready.now.listeners (world c.args.sockets.now c.args.handler.now c.args.clients.now.slab) _
    (world c.accept_some.new.sockets c.accept_some.new.handler c.accept_some.new.clients.slab) c.in_ok-came.ensures.ok in
    let h = c.accept_some.new.handler in
    off_memory_err g.H.Handler.handles g.H.BridgeHandler.hears g.H.Handler.refuses g.H.BridgeHandler.declines c.args.at (IsAskedOnce g.S.Sockets.accepts g.S.Readiness.watches g.S.Sockets.connects g.S.Sockets.reads) c.from_residual-in_err-linked.result (c.args.sockets.now, c.args.handler.now) (c.accept_links.new.sockets, c.accept_some.new.handler) c.from_residual-in_err-linked.ensures.1
    (goes_over g.H.Handler.handles g.H.BridgeHandler.hears (IsAskedOnce g.S.Sockets.accepts g.S.Readiness.watches g.S.Sockets.connects g.S.Sockets.reads) (c.args.sockets.now, c.args.handler.now) (c.accept_some.new.sockets, c.accept_some.new.handler) (c.accept_links.new.sockets, c.accept_some.new.handler) came (tells_none g.H.Handler.handles g.H.BridgeHandler.hears h h refl, c.in_err-linked.ensures.fault))

pub returns-in_err-clients_left-clause-fault : goal.returns-in_err-clients_left-clause-fault
returns-in_err-clients_left-clause-fault g c =
    let came = let_in_goes g.S.Sockets.accepts g.S.Readiness.watches g.S.Sockets.connects g.S.Sockets.reads g.H.Handler.handles g.H.BridgeHandler.hears c.args.at c.args.setting.now.listener c.args.ready.now.listeners (world c.args.sockets.now c.args.handler.now c.args.clients.now.slab) _
    (world c.accept_some.new.sockets c.accept_some.new.handler c.accept_some.new.clients.slab) c.in_ok-came.ensures.ok in
    let h = c.accept_some.new.handler in
    let linked = goes_over g.H.Handler.handles g.H.BridgeHandler.hears (IsAskedOnce g.S.Sockets.accepts g.S.Readiness.watches g.S.Sockets.connects g.S.Sockets.reads) (c.args.sockets.now, c.args.handler.now) (c.accept_some.new.sockets, c.accept_some.new.handler) (c.accept_links.new.sockets, c.accept_some.new.handler) came
    (tells_none g.H.Handler.handles g.H.BridgeHandler.hears h h refl, links_let_in g.S.Sockets.accepts g.S.Readiness.watches g.S.Sockets.connects g.S.Sockets.reads c.args.setting.now.bridge c.args.ready.now.listeners (c.accept_some.new.sockets, c.args.accepted.now) _ (c.accept_links.new.sockets, c.accept_links.new.accepted) c.in_ok-linked.ensures.ok) in
    off_err g.H.Handler.handles g.H.BridgeHandler.hears g.H.Handler.refuses g.H.BridgeHandler.declines c.args.at (IsAskedOnce g.S.Sockets.accepts g.S.Readiness.watches g.S.Sockets.connects g.S.Sockets.reads) c.from_residual-in_err-clients_left.result c.in_err-clients_left.field-0.0 (c.args.sockets.now, c.args.handler.now) (c.accept_links.new.sockets, c.accept_some.new.handler) (c.read_all.new.sockets, c.read_all.new.handler) c.from_residual-in_err-clients_left.ensures.1 linked
    (off_moves g.S.Sockets.accepts g.S.Readiness.watches g.S.Sockets.connects g.S.Sockets.reads g.H.Handler.handles g.H.BridgeHandler.hears g.H.Handler.refuses g.H.BridgeHandler.declines c.args.at (c.accept_links.new.sockets, c.accept_some.new.handler) (c.read_all.new.sockets, c.read_all.new.handler) c.in_err-clients_left.field-0.0 c.in_err-clients_left.ensures.fault)

pub returns-in_err-links-clause-fault : goal.returns-in_err-links-clause-fault
returns-in_err-links-clause-fault g c =
    let came = let_in_goes g.S.Sockets.accepts g.S.Readiness.watches g.S.Sockets.connects g.S.Sockets.reads g.H.Handler.handles g.H.BridgeHandler.hears c.args.at c.args.setting.now.listener c.args.ready.now.listeners (world c.args.sockets.now c.args.handler.now c.args.clients.now.slab) _
    (world c.accept_some.new.sockets c.accept_some.new.handler c.accept_some.new.clients.slab) c.in_ok-came.ensures.ok in
    let h = c.accept_some.new.handler in
    let linked = goes_over g.H.Handler.handles g.H.BridgeHandler.hears (IsAskedOnce g.S.Sockets.accepts g.S.Readiness.watches g.S.Sockets.connects g.S.Sockets.reads) (c.args.sockets.now, c.args.handler.now) (c.accept_some.new.sockets, c.accept_some.new.handler) (c.accept_links.new.sockets, c.accept_some.new.handler) came
    (tells_none g.H.Handler.handles g.H.BridgeHandler.hears h h refl, links_let_in g.S.Sockets.accepts g.S.Readiness.watches g.S.Sockets.connects g.S.Sockets.reads c.args.setting.now.bridge c.args.ready.now.listeners (c.accept_some.new.sockets, c.args.accepted.now) _ (c.accept_links.new.sockets, c.accept_links.new.accepted) c.in_ok-linked.ensures.ok) in
    let read = goes_over g.H.Handler.handles g.H.BridgeHandler.hears (IsAskedOnce g.S.Sockets.accepts g.S.Readiness.watches g.S.Sockets.connects g.S.Sockets.reads) (c.args.sockets.now, c.args.handler.now) (c.accept_links.new.sockets, c.accept_some.new.handler) (c.read_all.new.sockets, c.read_all.new.handler) linked
    (as_moves g.S.Sockets.accepts g.S.Readiness.watches g.S.Sockets.connects g.S.Sockets.reads g.H.Handler.handles g.H.BridgeHandler.hears c.args.at (c.accept_links.new.sockets, c.accept_some.new.handler) (c.read_all.new.sockets, c.read_all.new.handler)
    (reads_go g.S.Sockets.reads g.H.Handler.handles g.H.BridgeHandler.hears c.args.at _ (world c.accept_links.new.sockets c.accept_some.new.handler c.accept_some.new.clients.slab) _ (world c.read_all.new.sockets c.read_all.new.handler c.read_all.new.clients.slab)
    c.in_ok-clients_left.ensures.ok)) in
    off_err g.H.Handler.handles g.H.BridgeHandler.hears g.H.Handler.refuses g.H.BridgeHandler.declines c.args.at (IsAskedOnce g.S.Sockets.accepts g.S.Readiness.watches g.S.Sockets.connects g.S.Sockets.reads) c.from_residual-in_err-links.result c.in_err-links.field-0.0 (c.args.sockets.now, c.args.handler.now) (c.read_all.new.sockets, c.read_all.new.handler) (c.read_links.new.sockets, c.read_links.new.handler) c.from_residual-in_err-links.ensures.1 read
    (off_moves g.S.Sockets.accepts g.S.Readiness.watches g.S.Sockets.connects g.S.Sockets.reads g.H.Handler.handles g.H.BridgeHandler.hears g.H.Handler.refuses g.H.BridgeHandler.declines c.args.at (c.read_all.new.sockets, c.read_all.new.handler) (c.read_links.new.sockets, c.read_links.new.handler) c.in_err-links.field-0.0 c.in_err-links.ensures.fault)

pub returns-in_err-peers-clause-fault : goal.returns-in_err-peers-clause-fault
returns-in_err-peers-clause-fault g c =
    let came = let_in_goes g.S.Sockets.accepts g.S.Readiness.watches g.S.Sockets.connects g.S.Sockets.reads g.H.Handler.handles g.H.BridgeHandler.hears c.args.at c.args.setting.now.listener c.args.ready.now.listeners (world c.args.sockets.now c.args.handler.now c.args.clients.now.slab) _
    (world c.accept_some.new.sockets c.accept_some.new.handler c.accept_some.new.clients.slab) c.in_ok-came.ensures.ok in
    let h = c.accept_some.new.handler in
    let linked = goes_over g.H.Handler.handles g.H.BridgeHandler.hears (IsAskedOnce g.S.Sockets.accepts g.S.Readiness.watches g.S.Sockets.connects g.S.Sockets.reads) (c.args.sockets.now, c.args.handler.now) (c.accept_some.new.sockets, c.accept_some.new.handler) (c.accept_links.new.sockets, c.accept_some.new.handler) came
    (tells_none g.H.Handler.handles g.H.BridgeHandler.hears h h refl, links_let_in g.S.Sockets.accepts g.S.Readiness.watches g.S.Sockets.connects g.S.Sockets.reads c.args.setting.now.bridge c.args.ready.now.listeners (c.accept_some.new.sockets, c.args.accepted.now) _ (c.accept_links.new.sockets, c.accept_links.new.accepted) c.in_ok-linked.ensures.ok) in
    let read = goes_over g.H.Handler.handles g.H.BridgeHandler.hears (IsAskedOnce g.S.Sockets.accepts g.S.Readiness.watches g.S.Sockets.connects g.S.Sockets.reads) (c.args.sockets.now, c.args.handler.now) (c.accept_links.new.sockets, c.accept_some.new.handler) (c.read_all.new.sockets, c.read_all.new.handler) linked
    (as_moves g.S.Sockets.accepts g.S.Readiness.watches g.S.Sockets.connects g.S.Sockets.reads g.H.Handler.handles g.H.BridgeHandler.hears c.args.at (c.accept_links.new.sockets, c.accept_some.new.handler) (c.read_all.new.sockets, c.read_all.new.handler)
    (reads_go g.S.Sockets.reads g.H.Handler.handles g.H.BridgeHandler.hears c.args.at _ (world c.accept_links.new.sockets c.accept_some.new.handler c.accept_some.new.clients.slab) _ (world c.read_all.new.sockets c.read_all.new.handler c.read_all.new.clients.slab)
    c.in_ok-clients_left.ensures.ok)) in
    let listened = goes_over g.H.Handler.handles g.H.BridgeHandler.hears (IsAskedOnce g.S.Sockets.accepts g.S.Readiness.watches g.S.Sockets.connects g.S.Sockets.reads) (c.args.sockets.now, c.args.handler.now) (c.read_all.new.sockets, c.read_all.new.handler) (c.read_links.new.sockets, c.read_links.new.handler) read
    (as_moves g.S.Sockets.accepts g.S.Readiness.watches g.S.Sockets.connects g.S.Sockets.reads g.H.Handler.handles g.H.BridgeHandler.hears c.args.at (c.read_all.new.sockets, c.read_all.new.handler) (c.read_links.new.sockets, c.read_links.new.handler)
    (links_go g.S.Sockets.reads g.H.Handler.handles g.H.BridgeHandler.hears c.args.at _ (place c.read_all.new.sockets (near c.read_all.new.handler c.read_all.new.clients.slab c.args.dialled.now) c.accept_links.new.accepted) _
    (place c.read_links.new.sockets (near c.read_links.new.handler c.read_links.new.clients.slab c.read_links.new.links) c.read_links.new.accepted) c.in_ok-links.ensures.ok)) in
    off_err g.H.Handler.handles g.H.BridgeHandler.hears g.H.Handler.refuses g.H.BridgeHandler.declines c.args.at (IsAskedOnce g.S.Sockets.accepts g.S.Readiness.watches g.S.Sockets.connects g.S.Sockets.reads) c.from_residual-in_err-peers.result c.in_err-peers.field-0.0 (c.args.sockets.now, c.args.handler.now) (c.read_links.new.sockets, c.read_links.new.handler) (c.read_peers.new.sockets, c.read_peers.new.handler) c.from_residual-in_err-peers.ensures.1 listened
    (off_moves g.S.Sockets.accepts g.S.Readiness.watches g.S.Sockets.connects g.S.Sockets.reads g.H.Handler.handles g.H.BridgeHandler.hears g.H.Handler.refuses g.H.BridgeHandler.declines c.args.at (c.read_links.new.sockets, c.read_links.new.handler) (c.read_peers.new.sockets, c.read_peers.new.handler) c.in_err-peers.field-0.0 c.in_err-peers.ensures.fault)
