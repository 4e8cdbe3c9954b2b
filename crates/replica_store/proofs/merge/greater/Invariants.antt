use Rattle.std.proofs.Common.{◌≡◌, ◌++◌}
use Rattle.std.specs.FinMap as map
use Rattle.replica_store.specs.Merging.{greater_in}
use Rattle.replica_store.proofs.merge.greater.Given as goal

abbrev pub invariant-loop-topic : goal.invariant-loop-topic
invariant-loop-topic l = l.out.items ++ greater_in l.topics l.topic-iterator ≡ greater_in l.topics (map.entries l.others)
