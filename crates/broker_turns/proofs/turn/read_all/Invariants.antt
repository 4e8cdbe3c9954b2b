use Rattle.std.proofs.Common.{take}
use Rattle.broker_turns.specs.Connections.{IsRead, world}
use Rattle.broker_turns.specs.Steps.{EachTells}
use Rattle.broker_turns.proofs.turn.read_all.Given as goal

abbrev pub invariant-loop-key : goal.invariant-loop-key
invariant-loop-key g l =
    EachTells (IsRead g.S.Sockets.reads g.H.Handler.handles l.at) (take l.key-index l.keys)
    (world l.initial.sockets l.initial.handler l.initial.clients.slab) l.found.items (world l.sockets l.handler l.clients.slab)
