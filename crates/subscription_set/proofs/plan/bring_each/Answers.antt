use Rattle.std.proofs.Common.{take, ap, ◌∙◌}
use Rattle.std.specs.FinMap as map
use Rattle.subscription_set.proofs.Joins.{brought_start, brought_more, brought_others, front_none}
use Rattle.subscription_set.proofs.plan.bring_each.Goals as goal

pub loop-dot-init : goal.loop-dot-init
loop-dot-init c = brought_start c.args.entries.now c.args.others.now c.args.dots.now

pub loop-dot-preserved : goal.loop-dot-preserved
loop-dot-preserved c = brought_more c.args.entries.now c.args.others.now c.loop-dot.entries c.bring_one.new.entries c.args.dots.now c.loop-dot.dot-index c.dot-item.result c.loop-dot-test.true c.dot-item.is c.loop-dot.invariant c.in_ok-bring_one.ensures.ok

pub returns-in_err-bring_one-clause-others : goal.returns-in_err-bring_one-clause-others
returns-in_err-bring_one-clause-others c = λ q none. ap (λ m. map.get m q) c.in_err-bring_one.ensures.err ∙ brought_others c.args.entries.now c.args.others.now c.loop-dot.entries (take c.loop-dot.dot-index c.args.dots.now) c.loop-dot.invariant q (front_none q c.args.dots.now c.loop-dot.dot-index none)
