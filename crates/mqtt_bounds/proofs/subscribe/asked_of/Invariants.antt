use Rattle.std.proofs.Common.{◌≡◌, take}
use Rattle.std.specs.List.{filter}
use Rattle.mqtt_bounds.specs.Bounded.{is_asked}
use Rattle.mqtt_bounds.proofs.subscribe.asked_of.Given as goal

abbrev pub invariant-loop-filter : goal.invariant-loop-filter
invariant-loop-filter l = l.asked.items ≡ filter (is_asked l.bounds l.full) (take l.filter-index l.filters)
