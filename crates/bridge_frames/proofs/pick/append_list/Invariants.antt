use Rattle.std.proofs.Common.{◌≡◌, ◌≤◌, ◌++◌, length, take}
use Rattle.std.specs.Prelude.{flat_map, vec_capacity}
use Rattle.bridge_frames.specs.Forwards.{pick}
use Rattle.bridge_frames.proofs.pick.append_list.Given as goal

abbrev pub invariant-loop-pick : goal.invariant-loop-pick
invariant-loop-pick l = record {
  items : l.out.items ≡ l.fn.out.items ++ flat_map pick.bytes (take l.pick-index l.list);
  begins : take (length l.fn.out.items) l.out.items ≡ l.fn.out.items;
  capacity : vec_capacity l.fn.out ≤ vec_capacity l.out;
}
