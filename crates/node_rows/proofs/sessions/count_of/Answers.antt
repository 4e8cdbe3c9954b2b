use Rattle.node_rows.specs.Sessions.{IsOf}
use Rattle.node_rows.proofs.Counted.{all_taken, is_here, starts_here}
use Rattle.node_rows.proofs.sessions.count_of.Goals as goal

pub returns-then-ne-clause-others : goal.returns-then-ne-clause-others
returns-then-ne-clause-others c = starts_here c.args.owner.now c.as_slice.result.now c.args.rows.now c.loop-i.i c.index-rows-i.result c.ne.result c.loop-i-test.true c.index-rows-i.is c.as_slice.ensures.value c.ne.ensures c.if-ne.true

pub loop-i-preserved : goal.loop-i-preserved
loop-i-preserved c =
    all_taken (IsOf c.args.owner.now) c.args.rows.now c.loop-i.i c.index-rows-i.result c.loop-i-test.true c.index-rows-i.is c.loop-i.invariant
    (is_here c.args.owner.now c.as_slice.result.now c.args.rows.now c.loop-i.i c.index-rows-i.result c.ne.result c.index-rows-i.is c.as_slice.ensures.value c.ne.ensures c.if-ne.false)
