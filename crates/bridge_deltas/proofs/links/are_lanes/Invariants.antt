use Rattle.std.proofs.Common.{take}
use Rattle.std.specs.List.{AllByRecursion}
use Rattle.bridge_lanes.specs.Reading.{IsLane}
use Rattle.bridge_deltas.proofs.links.are_lanes.Given as goal

abbrev pub invariant-loop-i : goal.invariant-loop-i
invariant-loop-i l = AllByRecursion (λ k. IsLane k.lane) (take l.i l.lanes.items)
