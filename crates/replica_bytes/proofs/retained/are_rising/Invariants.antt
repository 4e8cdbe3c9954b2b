use Rattle.std.proofs.Common.{take}
use Rattle.subscription_set.specs.Sorted.{Rises}
use Rattle.replica_store.specs.Retained.{topic_cmp}
use Rattle.replica_bytes.proofs.retained.are_rising.Given as goal

abbrev pub invariant-loop-i : goal.invariant-loop-i
invariant-loop-i l = Rises topic_cmp (take l.i l.entries)
