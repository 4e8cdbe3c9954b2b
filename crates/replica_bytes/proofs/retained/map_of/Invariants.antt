use Rattle.std.specs.Vec.Iter.{into_iter_items}
use Rattle.replica_bytes.proofs.Sets.{IsBuilt}
use Rattle.replica_bytes.proofs.retained.map_of.Given as goal

abbrev pub invariant-loop-topic : goal.invariant-loop-topic
invariant-loop-topic l = IsBuilt l.fn.entries.items (into_iter_items l.topic-iterator) l.made
