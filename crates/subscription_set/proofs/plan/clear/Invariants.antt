use Rattle.std.proofs.Common.{take}
use Rattle.subscription_set.specs.Joining.{IsCleared}
use Rattle.subscription_set.proofs.plan.clear.Given as goal

abbrev pub invariant-loop-dot : goal.invariant-loop-dot
invariant-loop-dot l = IsCleared l.fn.entries (take l.dot-index l.dots) l.entries
