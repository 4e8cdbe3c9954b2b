use Rattle.std.proofs.Common.{◌≡◌, ◌++◌, map, take}
use Rattle.bridge_lanes.specs.Rows.{each}
use Rattle.bridge_lanes.specs.ChangeSteps.{numbers_changes}
use Rattle.bridge_lanes.specs.Changes.{left_of}
use Rattle.bridge_deltas.proofs.links.add_numbers_changes.Given as goal

abbrev pub invariant-loop-peer : goal.invariant-loop-peer
invariant-loop-peer l = map left_of l.out.items ≡ map left_of l.fn.out.items ++ each numbers_changes 0 (take l.peer l.lanes.items)
