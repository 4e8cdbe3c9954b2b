use Rattle.std.proofs.Common.{◌≡◌, ◌++◌, map}
use Rattle.std.specs.List.{AllByRecursion}
use Rattle.std.specs.Vec.Iter.{into_iter_items}
use Rattle.bridge_lanes.specs.Reading.{IsLane, lane_in}
use Rattle.bridge_deltas.specs.Lane.{told_lane}
use Rattle.bridge_deltas.proofs.links.lanes_of.Given as goal

abbrev pub invariant-loop-lane : goal.invariant-loop-lane
invariant-loop-lane l = record {
  made : l.lanes.items ++ map told_lane (map lane_in (into_iter_items l.lane-iterator)) ≡ map told_lane (map lane_in l.fn.read.items);
  left : AllByRecursion (λ r. IsLane (lane_in r)) (into_iter_items l.lane-iterator);
}
