use Rattle.std.proofs.Common.{take}
use Rattle.subscription_set.specs.Joining.{IsBrought}
use Rattle.subscription_set.proofs.plan.bring_each.Given as goal

abbrev pub invariant-loop-dot : goal.invariant-loop-dot
invariant-loop-dot l = IsBrought l.fn.entries l.others (take l.dot-index l.dots) l.entries
