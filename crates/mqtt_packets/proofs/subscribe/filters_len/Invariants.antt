use Rattle.std.proofs.Common.{◌≡◌, ◌<◌, ◌^◌, take, length}
use Rattle.std.specs.Prelude.{flat_map}
use Rattle.std.specs.List.{AllByRecursion}
use Rattle.mqtt_packets.specs.Subscribe.{subscribe_filter}
use Rattle.mqtt_packets.proofs.subscribe.filters_len.Given as goal

abbrev pub invariant-loop-f : goal.invariant-loop-f
invariant-loop-f l = record {
  fits : AllByRecursion subscribe_filter.Fits (take l.f-index l.filters);
  so_far : l.total ≡ length (flat_map subscribe_filter.bytes (take l.f-index l.filters));
  short : l.total < 2 ^ 28;
}
