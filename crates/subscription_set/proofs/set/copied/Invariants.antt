use Rattle.std.specs.FinMap as map
use Rattle.subscription_set.proofs.Merges.{IsFiledUpTo}
use Rattle.subscription_set.proofs.set.copied.Given as goal

abbrev pub invariant-loop-dot : goal.invariant-loop-dot
invariant-loop-dot l = IsFiledUpTo (map.entries l.entries) l.dot-iterator l.copy
