use Rattle.std.proofs.Common.{◌≡◌, ◌++◌, ◌+◌, suc, map, length, take, drop}
use Rattle.bridge_lanes.specs.Changes.{left_of, put}
use Rattle.bridge_lanes.specs.Rows.{message_rows}
use Rattle.bridge_lanes.proofs.row.append_puts.Given as goal

abbrev pub invariant-loop-i : goal.invariant-loop-i
invariant-loop-i l = record {
  items : map left_of l.out.items ++ map put (message_rows l.peer (suc (l.base + l.i)) (drop l.i l.messages.items))
      ≡ map left_of l.fn.out.items ++ map put (message_rows l.peer (suc (l.base + l.from)) (drop l.from l.messages.items));
  begins : take (length l.fn.out.items) l.out.items ≡ l.fn.out.items;
}
