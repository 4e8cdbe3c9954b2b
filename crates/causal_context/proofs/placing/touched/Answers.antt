use Rattle.causal_context.proofs.RangeLemmas.{not_so}
use Rattle.causal_context.proofs.Touching.{touched_next, touched_before}
use Rattle.causal_context.proofs.placing.touched.Goals as goal

pub returns-then-reaches_at : goal.returns-then-reaches_at
returns-then-reaches_at c =
    touched_before c.args.ranges.now c.args.range c.started-next.result c.started-end.result c.requires.sound c.requires.fine c.started-next.ensures c.started-end.ensures
    (c.reaches_at.ensures.0 c.if-reaches_at.true)

pub returns-else-reaches_at : goal.returns-else-reaches_at
returns-else-reaches_at c =
    touched_next c.args.ranges.now c.args.range c.started-next.result c.started-end.result c.requires.sound c.requires.fine c.started-next.ensures c.started-end.ensures
    (not_so c.reaches_at.result c.reaches_at.ensures c.if-reaches_at.false)
