use Rattle.broker_turns.specs.Bridging.{IsSought, near, search}
use Rattle.broker_turns.specs.Steps.{EachBelow}
use Rattle.broker_turns.proofs.links.dial_peers.Given as goal

abbrev pub invariant-loop-peer : goal.invariant-loop-peer
invariant-loop-peer g l =
    EachBelow (IsSought g.S.Sockets.connects g.S.Readiness.watches g.H.BridgeHandler.hears l.at l.peers) l.peer
    (search l.initial.sockets (near l.initial.handler l.initial.clients.slab l.initial.links) l.initial.sought)
    (search l.sockets (near l.handler l.clients.slab l.links) l.sought)
