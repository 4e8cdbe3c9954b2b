use Rattle.std.proofs.Common.{◌≡◌, ◌<◌, ◌^◌, take, length}
use Rattle.std.specs.Prelude.{flat_map}
use Rattle.std.specs.List.{AllByRecursion}
use Rattle.mqtt_fields.specs.Numbers.{text}
use Rattle.mqtt_packets.proofs.unsubscribe.filters_len.Given as goal

abbrev pub invariant-loop-filter : goal.invariant-loop-filter
invariant-loop-filter l = record {
  fits : AllByRecursion text.Fits (take l.filter-index l.filters);
  so_far : l.total ≡ length (flat_map text.bytes (take l.filter-index l.filters));
  short : l.total < 2 ^ 28;
}
