use Rattle.std.proofs.Common.{take}
use Rattle.broker_turns.specs.Connections.{IsRoomStep}
use Rattle.broker_turns.specs.Steps.{Each}
use Rattle.broker_turns.proofs.turn.tell_rooms.Given as goal

abbrev pub invariant-loop-key : goal.invariant-loop-key
invariant-loop-key g l =
    Each (IsRoomStep g.H.Handler.handles l.at) (take l.key-index l.keys) (l.initial.handler, l.initial.clients.slab) (l.handler, l.clients.slab)
