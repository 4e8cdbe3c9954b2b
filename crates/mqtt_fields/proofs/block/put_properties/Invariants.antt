use Rattle.std.proofs.Common.{◌≡◌, ◌++◌, ◌+◌, ◌≤◌, take, length, vec_len, vec_capacity}
use Rattle.mqtt_fields.specs.Block.{properties_bytes}
use Rattle.mqtt_fields.proofs.block.put_properties.Given as goal

abbrev pub invariant-loop-p : goal.invariant-loop-p
invariant-loop-p l = record {
  so_far : l.out.items ≡ l.initial.out.items ++ properties_bytes (take l.p-index l.ps);
  len : vec_len l.out ≡ vec_len l.initial.out + length (properties_bytes (take l.p-index l.ps));
  same : vec_capacity l.initial.out ≤ vec_capacity l.out;
}
