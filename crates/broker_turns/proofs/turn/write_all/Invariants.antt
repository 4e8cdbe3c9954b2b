use Rattle.std.proofs.Common.{take}
use Rattle.broker_turns.specs.Connections.{IsWrote, world}
use Rattle.broker_turns.specs.Steps.{Each}
use Rattle.broker_turns.proofs.turn.write_all.Given as goal

abbrev pub invariant-loop-key : goal.invariant-loop-key
invariant-loop-key g l =
    Each (IsWrote g.S.Sockets.writes g.H.Handler.handles g.H.Handler.settles l.at) (take l.key-index l.keys)
    (world l.initial.sockets l.initial.handler l.initial.clients.slab) (world l.sockets l.handler l.clients.slab)
