use Rattle.std.proofs.Common.{◌≡◌, ◌++◌, map as map_list}
use Rattle.std.specs.FinMap as map
use Rattle.std.specs.Map.Iter.{deref_pair}
use Rattle.replica_store.specs.Merging.{fresh_in}
use Rattle.replica_store.proofs.merge.fresh.Given as goal

abbrev pub invariant-loop-topic : goal.invariant-loop-topic
invariant-loop-topic l = map_list deref_pair l.out.items ++ fresh_in l.topics l.topic-iterator ≡ fresh_in l.topics (map.entries l.others)
