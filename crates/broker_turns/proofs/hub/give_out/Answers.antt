use Rattle.std.proofs.Common.{◌≡◌, ℕ, List, length, refl, sym, subst}
use Rattle.slab.specs.Slab.{Slab}
use Rattle.broker_turns.specs.declared.clients.Client.{Client}
use Rattle.broker_turns.specs.Bridging.{near, reach}
use Rattle.broker_turns.specs.Clients.{AreDue}
use Rattle.broker_turns.specs.Connections.{IsWrote, world}
use Rattle.broker_turns.specs.Steps.{Each}
use Rattle.broker_turns.proofs.Stepping.{counted}
use Rattle.std.proofs.Common.{inl, inr}
use Rattle.broker_turns.specs.declared.turn.TurnFault.TheVariants.{NoMemory}
use Rattle.broker_turns.specs.Broken.{AreUnwrote, IsUngiven}
use Rattle.broker_turns.proofs.Serving.{failed}
use Rattle.broker_turns.proofs.hub.give_out.Goals as goal

pub returns-clause-ok : goal.returns-clause-ok
returns-clause-ok g c =
    let s = c.args.sockets.now in
    let h = c.args.handler.now in
    let s' = c.write_all.new.sockets in
    let h' = c.write_all.new.handler in
    let c' = c.write_all.new.clients.slab in
    let due = c.in_ok-due.due.items in
    let Due : Slab (Client g.row.S-Stream.Denot) → Type 0 = λ clients. AreDue clients due in
    let Writes : List ℕ → Slab (Client g.row.S-Stream.Denot) → Type 0 = λ keys clients.
    Each (IsWrote g.S.Sockets.writes g.H.Handler.handles g.H.Handler.settles c.args.at) keys (world s h clients) (world s' h' c') in
    let e : length c.args.dialled.now ≡ length c.args.setting.now.peers.items = sym c.requires in
    record {
      due = due;
      all = subst Due c.due.ensures.slab c.in_ok-due.ensures.due;
      served = reach s' (near h' c' c.args.dialled.now);
      written = record { does = subst (λ keys. Writes keys c.args.clients.now.slab) c.deref.ensures.value (subst (λ clients. Writes c.deref.result.now clients) c.due.ensures.slab c.in_ok-write_all.ensures.ok); dialled = refl };
      links_written = record { does = counted _ _ _ _ _ e c.write_links.ensures; handler = refl; clients = refl };
    }

pub returns-in_err-due-clause-fault : goal.returns-in_err-due-clause-fault
returns-in_err-due-clause-fault g c =
    failed c.from_residual.result NoMemory (λ fault. IsUngiven g.S.Sockets.writes g.H.Handler.handles g.H.BridgeHandler.hears g.H.Handler.settles g.H.Handler.refuses g.H.BridgeHandler.declines g.H.Handler.stops c.args.at (world c.args.sockets.now c.args.handler.now c.args.clients.now.slab) (world c.args.sockets.now c.args.handler.now c.due.new.self.slab) fault)
    c.from_residual.ensures.1 (inl (refl, refl, refl))

pub returns-in_err-write_all-clause-fault : goal.returns-in_err-write_all-clause-fault
returns-in_err-write_all-clause-fault g c =
    let due = c.in_ok-due.due.items in
    let fault = c.in_err-write_all.field-0.0 in
    let after = world c.write_all.new.sockets c.write_all.new.handler c.write_all.new.clients.slab in
    let Due : Slab (Client g.row.S-Stream.Denot) → Type 0 = λ clients. AreDue clients due in
    let Unwrote : List ℕ → Slab (Client g.row.S-Stream.Denot) → Type 0 = λ keys clients.
    AreUnwrote g.S.Sockets.writes g.H.Handler.handles g.H.BridgeHandler.hears g.H.Handler.settles g.H.Handler.refuses g.H.BridgeHandler.declines g.H.Handler.stops c.args.at keys (world c.args.sockets.now c.args.handler.now clients) after fault in
    failed c.from_residual-in_err-write_all.result fault (λ fault. IsUngiven g.S.Sockets.writes g.H.Handler.handles g.H.BridgeHandler.hears g.H.Handler.settles g.H.Handler.refuses g.H.BridgeHandler.declines g.H.Handler.stops c.args.at (world c.args.sockets.now c.args.handler.now c.args.clients.now.slab) after fault)
    c.from_residual-in_err-write_all.ensures.1
    (inr (
      due,
      subst Due c.due.ensures.slab c.in_ok-due.ensures.due,
      subst (λ keys. Unwrote keys c.args.clients.now.slab) c.deref.ensures.value (subst (λ clients. Unwrote c.deref.result.now clients) c.due.ensures.slab c.in_err-write_all.ensures.fault),
    ))
