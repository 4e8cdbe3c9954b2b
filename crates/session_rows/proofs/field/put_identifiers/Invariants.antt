use Rattle.std.proofs.Common.{◌≡◌, ◌≤◌, ◌++◌, length, take}
use Rattle.std.specs.Int.{w16, w32}
use Rattle.std.specs.Prelude.{flat_map, vec_capacity}
use Rattle.mqtt_fields.specs.Numbers.{number}
use Rattle.session_rows.proofs.field.put_identifiers.Given as goal

abbrev pub invariant-loop-id : goal.invariant-loop-id
invariant-loop-id l = record {
  items : l.out.items ≡ l.fn.out.items ++ ((number w32).bytes (length l.ids) ++ flat_map (number w16).bytes (take l.id-index l.ids));
  capacity : vec_capacity l.fn.out ≤ vec_capacity l.out;
}
