use Rattle.std.specs.FinMap as map
use Rattle.door_limits.proofs.Sweeping.{IsSweeping}
use Rattle.door_limits.proofs.limited.Limited.sweep.Given as goal

abbrev pub invariant-loop-connection : goal.invariant-loop-connection
invariant-loop-connection g l = IsSweeping g.H.Handler.handles l.at l.initial.self l.initial.outputs.items l.self l.outputs.items

abbrev pub decreases-loop-connection : goal.decreases-loop-connection
decreases-loop-connection g l = map.len l.self.connections
