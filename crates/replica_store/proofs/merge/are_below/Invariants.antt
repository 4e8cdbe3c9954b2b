use Rattle.std.proofs.Common.{◌↔◌}
use Rattle.std.specs.FinMap as map
use Rattle.replica_store.specs.Merging.{AllBelow}
use Rattle.replica_store.proofs.merge.are_below.Given as goal

abbrev pub invariant-loop-topic : goal.invariant-loop-topic
invariant-loop-topic l = AllBelow l.topic-iterator l.others ↔ AllBelow (map.entries l.topics) l.others
