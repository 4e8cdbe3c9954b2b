use Rattle.std.proofs.Common.{[], not}
use Rattle.std.specs.FinMap as map
use Rattle.std.specs.FinSet as set
use Rattle.subscription_set.proofs.Joins.{Moved}
use Rattle.subscription_set.proofs.plan.unseen.Given as goal

abbrev pub invariant-loop-dot : goal.invariant-loop-dot
invariant-loop-dot l = Moved (λ y. not (set.contains l.seen.0 y.0)) l.out.items l.dot-iterator [] (map.entries l.others)
