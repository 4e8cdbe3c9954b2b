use Rattle.std.proofs.Common.{◌≡◌, ◌++◌, ◌+◌, ◌≤◌, take, length, vec_len, vec_capacity}
use Rattle.std.specs.Prelude.{flat_map}
use Rattle.mqtt_packets.specs.Subscribe.{subscribe_filter}
use Rattle.mqtt_packets.proofs.subscribe.put_filters.Given as goal

abbrev pub invariant-loop-f : goal.invariant-loop-f
invariant-loop-f l = record {
  so_far : l.out.items ≡ l.initial.out.items ++ flat_map subscribe_filter.bytes (take l.f-index l.filters);
  len : vec_len l.out ≡ vec_len l.initial.out + length (flat_map subscribe_filter.bytes (take l.f-index l.filters));
  capacity : vec_capacity l.initial.out ≤ vec_capacity l.out;
}
