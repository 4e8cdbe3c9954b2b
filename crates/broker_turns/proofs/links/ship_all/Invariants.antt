use Rattle.broker_turns.specs.Bridging.{IsSupplied, near}
use Rattle.broker_turns.specs.Steps.{EachBelow}
use Rattle.broker_turns.proofs.links.ship_all.Given as goal

abbrev pub invariant-loop-peer : goal.invariant-loop-peer
invariant-loop-peer g l =
    EachBelow (IsSupplied g.H.BridgeHandler.hears l.at) l.peer
    (near l.initial.handler l.initial.clients.slab l.initial.links)
    (near l.handler l.clients.slab l.links)
