use Rattle.std.proofs.Common.{◌≡◌, ◌≤◌, ◌++◌, length, take}
use Rattle.std.specs.Prelude.{flat_map, vec_capacity}
use Rattle.std.specs.Int.{w16, w32}
use Rattle.mqtt_fields.specs.Numbers.{number}
use Rattle.mqtt_message.proofs.identifiers.Identifiers.append.Given as goal

abbrev pub invariant-loop-n : goal.invariant-loop-n
invariant-loop-n l = record {
  items : l.out.items ≡ l.fn.out.items ++ ((number w16).bytes (length l.n-items) ++ flat_map (number w32).bytes (take l.n-index l.n-items));
  capacity : vec_capacity l.fn.out ≤ vec_capacity l.out;
}
