use Rattle.std.proofs.Common.{◌≡◌, ◌++◌, map, take}
use Rattle.mqtt_bounds.specs.Bounded.{filter_code}
use Rattle.mqtt_bounds.proofs.subscribe.put_codes.Given as goal

abbrev pub invariant-loop-filter : goal.invariant-loop-filter
invariant-loop-filter l = l.codes.items ≡ l.fn.codes.items ++ map (filter_code l.bounds l.full) (take l.filter-index l.filters)
