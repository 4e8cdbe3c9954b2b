use Rattle.std.proofs.Common.{◌≡◌}
use Rattle.std.specs.Vec.Iter.{into_iter_items}
use Rattle.replica_store.specs.Merging.{with_all, AllHeld}
use Rattle.replica_store.proofs.merge.put_greater.Given as goal

abbrev pub invariant-loop-topic : goal.invariant-loop-topic
invariant-loop-topic l = record {
  left : with_all l.topics (into_iter_items l.topic-iterator) ≡ with_all l.fn.topics l.fn.greater.items;
  held : AllHeld l.topics (into_iter_items l.topic-iterator);
}
