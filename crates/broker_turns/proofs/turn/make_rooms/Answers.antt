use Rattle.std.proofs.Common.{ℕ, List, refl, subst}
use Rattle.std.proofs.lemmas.Result.{on_ok_weaker}
use Rattle.broker_turns.specs.Connections.{IsRoomStep}
use Rattle.broker_turns.specs.Steps.{Each}
use Rattle.broker_turns.proofs.Breaking.{broken_memory_err, tells_none}
use Rattle.broker_turns.proofs.turn.make_rooms.Goals as goal

pub returns-clause-ok : goal.returns-clause-ok
returns-clause-ok g c =
    let Tells : List ℕ → Type 0 = λ keys.
    Each (IsRoomStep g.H.Handler.handles c.args.at) keys (c.args.handler.now, c.args.clients.now.slab) (c.tell_rooms.new.handler, c.tell_rooms.new.clients.slab) in
    on_ok_weaker c.tell_rooms.result
    (λ each. record { takers = c.in_ok-takers.takers.items; all = c.in_ok-takers.ensures; each = subst Tells c.deref.ensures.value each })
    c.tell_rooms.ensures.ok

pub returns-in_err-takers-clause-fault : goal.returns-in_err-takers-clause-fault
returns-in_err-takers-clause-fault g c =
    broken_memory_err g.H.Handler.handles g.H.BridgeHandler.hears g.H.Handler.refuses g.H.BridgeHandler.declines c.args.at c.from_residual.result c.args.handler.now c.args.handler.now c.from_residual.ensures.1 (tells_none g.H.Handler.handles g.H.BridgeHandler.hears c.args.handler.now c.args.handler.now refl)
