use Rattle.std.proofs.Common.{◌≡◌, drop, map as map_list}
use Rattle.std.specs.Map.Iter.{deref_pair}
use Rattle.replica_store.specs.Merging.{without_all}
use Rattle.replica_store.proofs.merge.take_out.Given as goal

abbrev pub invariant-loop-topic : goal.invariant-loop-topic
invariant-loop-topic l = without_all l.topics (map_list deref_pair (drop l.topic-index l.fresh)) ≡ without_all l.fn.topics (map_list deref_pair l.fresh)
