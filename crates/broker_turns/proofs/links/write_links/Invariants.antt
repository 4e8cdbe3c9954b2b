use Rattle.broker_turns.specs.Bridging.{IsOffered}
use Rattle.broker_turns.specs.Steps.{EachBelow}
use Rattle.broker_turns.proofs.links.write_links.Given as goal

abbrev pub invariant-loop-peer : goal.invariant-loop-peer
invariant-loop-peer g l =
    EachBelow (IsOffered g.S.Sockets.writes) l.peer
    (l.initial.sockets, l.initial.links)
    (l.sockets, l.links)
