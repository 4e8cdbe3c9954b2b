use Rattle.std.proofs.Common.{◌≡◌, ◌++◌, take, drop}
use Rattle.std.specs.Prelude.{map}
use Rattle.bridge_lanes.specs.Changes.{told_now}
use Rattle.bridge_deltas.proofs.links.tell_all.Given as goal

abbrev pub invariant-loop-i : goal.invariant-loop-i
invariant-loop-i l = l.lanes.items ≡ map told_now (take l.i l.fn.lanes.items) ++ drop l.i l.fn.lanes.items
