use Rattle.std.proofs.Common.{take}
use Rattle.broker_turns.specs.Bridging.{IsPeerRead, near, reach}
use Rattle.broker_turns.specs.Steps.{EachTells}
use Rattle.broker_turns.proofs.links.read_peers.Given as goal

abbrev pub invariant-loop-peer : goal.invariant-loop-peer
invariant-loop-peer g l =
    EachTells (IsPeerRead g.S.Sockets.reads g.H.BridgeHandler.hears l.at) (take l.peer-index l.peers)
    (reach l.initial.sockets (near l.initial.handler l.initial.clients.slab l.initial.links)) l.found.items
    (reach l.sockets (near l.handler l.clients.slab l.links))
