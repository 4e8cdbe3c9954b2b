use Rattle.std.proofs.Common.{take}
use Rattle.broker_turns.specs.Bridging.{IsHeardFrom, near, place}
use Rattle.broker_turns.specs.Steps.{EachTells}
use Rattle.broker_turns.proofs.links.read_links.Given as goal

abbrev pub invariant-loop-key : goal.invariant-loop-key
invariant-loop-key g l =
    EachTells (IsHeardFrom g.S.Sockets.reads g.H.BridgeHandler.hears l.at) (take l.key-index l.keys)
    (place l.initial.sockets (near l.initial.handler l.initial.clients.slab l.initial.links) l.initial.accepted) l.found.items
    (place l.sockets (near l.handler l.clients.slab l.links) l.accepted)
