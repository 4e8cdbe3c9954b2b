use Rattle.std.proofs.Common.{◌≡◌, take}
use Rattle.mqtt_packets.proofs.unsubscribe.UnsubscribeFilters.copy.Given as goal

abbrev pub invariant-loop-filter : goal.invariant-loop-filter
invariant-loop-filter l = l.items.items ≡ take l.filter-index l.self
