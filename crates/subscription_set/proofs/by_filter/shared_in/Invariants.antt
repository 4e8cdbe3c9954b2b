use Rattle.std.proofs.Common.{drop, map as map_list}
use Rattle.std.specs.List.{AllByRecursion}
use Rattle.filter_trie.proofs.Selecting.{Follows}
use Rattle.mqtt_topics.specs.Topics.{IsFilter, IsShared}
use Rattle.subscription_set.proofs.Grouping.{filter_in}
use Rattle.subscription_set.proofs.by_filter.shared_in.Given as goal

abbrev pub invariant-loop-filter : goal.invariant-loop-filter
invariant-loop-filter l = Follows IsShared (map_list filter_in l.found) (map_list (λ r. r.now) l.out.items) (map_list filter_in (drop l.filter-index l.found)) × AllByRecursion IsFilter (map_list (λ r. r.now) l.out.items)
