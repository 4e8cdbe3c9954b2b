use Rattle.std.proofs.Common.{◌≡◌, drop, map as map_list}
use Rattle.std.specs.Map.Iter.{deref_pair}
use Rattle.replica_store.specs.Merging.{with_all, KeepsOthers}
use Rattle.replica_store.proofs.merge.add_some.Given as goal

abbrev pub invariant-loop-topic : goal.invariant-loop-topic
invariant-loop-topic l = record {
  left : with_all l.topics (map_list deref_pair (drop l.topic-index l.fresh)) ≡ with_all l.fn.topics (map_list deref_pair l.fresh);
  others : KeepsOthers l.fn.topics l.topics (map_list deref_pair l.fresh);
}
