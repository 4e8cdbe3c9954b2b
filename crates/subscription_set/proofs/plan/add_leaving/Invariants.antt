use Rattle.subscription_set.specs.Joining.{leaves_with}
use Rattle.subscription_set.proofs.Joins.{Moved}
use Rattle.subscription_set.proofs.plan.add_leaving.Given as goal

abbrev pub invariant-loop-dot : goal.invariant-loop-dot
invariant-loop-dot l = Moved (leaves_with l.other_seen l.others) l.out.items l.dot-iterator l.fn.out.items l.fn.found
