use Rattle.std.proofs.Common.{take}
use Rattle.subscription_set.proofs.Joins.{LeavingIn}
use Rattle.subscription_set.proofs.plan.leaving.Given as goal

abbrev pub invariant-loop-range : goal.invariant-loop-range
invariant-loop-range l = LeavingIn l.entries l.other_seen l.others (take l.range-index l.range-items) l.out.items
