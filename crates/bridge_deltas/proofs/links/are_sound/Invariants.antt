use Rattle.std.proofs.Common.{take}
use Rattle.std.specs.List.{AllByRecursion}
use Rattle.bridge_lanes.specs.ChangeSteps.{IsSoundLane}
use Rattle.bridge_deltas.proofs.links.are_sound.Given as goal

abbrev pub invariant-loop-i : goal.invariant-loop-i
invariant-loop-i l = AllByRecursion IsSoundLane (take l.i l.lanes.items)
