use Rattle.std.proofs.Common.{◌≡◌, ◌++◌, map as map_list}
use Rattle.std.specs.FinMap as map
use Rattle.std.specs.List.{filter}
use Rattle.std.specs.Map.Iter.{deref_pair}
use Rattle.subscription_set.specs.Standing.{is_latest}
use Rattle.subscription_set.proofs.live.latest_among.Given as goal

abbrev pub invariant-loop-dot : goal.invariant-loop-dot
invariant-loop-dot l = map_list deref_pair l.out.items ++ filter (is_latest (map.entries l.entries)) l.dot-iterator ≡ filter (is_latest (map.entries l.entries)) (map.entries l.entries)
