use Rattle.std.proofs.Common.{take, sym, subst}
use Rattle.subscription_set.specs.Joining.{IsCleared}
use Rattle.subscription_set.proofs.Joins.{cleared_start, cleared_more}
use Rattle.subscription_set.proofs.plan.clear.Goals as goal

pub loop-dot-init : goal.loop-dot-init
loop-dot-init c = cleared_start c.args.entries.now c.args.dots.now

pub loop-dot-preserved : goal.loop-dot-preserved
loop-dot-preserved c = subst (IsCleared c.args.entries.now (take _ c.args.dots.now)) (sym c.remove.ensures) (cleared_more c.args.entries.now c.loop-dot.entries c.args.dots.now c.loop-dot.dot-index c.dot-item.result c.loop-dot-test.true c.dot-item.is c.loop-dot.invariant)
