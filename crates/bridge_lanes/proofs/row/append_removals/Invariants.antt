use Rattle.std.proofs.Common.{◌≡◌, ◌++◌, ◌+◌, ◌-◌, suc, map, length, take}
use Rattle.bridge_lanes.specs.Changes.{left_of, removals}
use Rattle.bridge_lanes.proofs.row.append_removals.Given as goal

abbrev pub invariant-loop-i : goal.invariant-loop-i
invariant-loop-i l = record {
  items : map left_of l.out.items ++ removals l.peer (suc (l.base + l.i)) (l.count - l.i) ≡ map left_of l.fn.out.items ++ removals l.peer (suc l.base) l.count;
  begins : take (length l.fn.out.items) l.out.items ≡ l.fn.out.items;
}
