use Rattle.std.specs.Vec.Iter.{into_iter_items}
use Rattle.subscription_set.proofs.Merges.{IsFiledUpTo}
use Rattle.subscription_set.proofs.set.by_dot.Given as goal

abbrev pub invariant-loop-dot : goal.invariant-loop-dot
invariant-loop-dot l = IsFiledUpTo l.fn.entries.items (into_iter_items l.dot-iterator) l.made
