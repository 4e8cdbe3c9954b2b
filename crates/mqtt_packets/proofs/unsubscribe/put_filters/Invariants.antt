use Rattle.std.proofs.Common.{◌≡◌, ◌++◌, ◌+◌, ◌≤◌, take, length, vec_len, vec_capacity}
use Rattle.std.specs.Prelude.{flat_map}
use Rattle.mqtt_fields.specs.Numbers.{text}
use Rattle.mqtt_packets.proofs.unsubscribe.put_filters.Given as goal

abbrev pub invariant-loop-filter : goal.invariant-loop-filter
invariant-loop-filter l = record {
  so_far : l.out.items ≡ l.initial.out.items ++ flat_map text.bytes (take l.filter-index l.filters);
  len : vec_len l.out ≡ vec_len l.initial.out + length (flat_map text.bytes (take l.filter-index l.filters));
  capacity : vec_capacity l.initial.out ≤ vec_capacity l.out;
}
