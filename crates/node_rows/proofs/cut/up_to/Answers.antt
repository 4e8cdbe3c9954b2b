use Rattle.node_rows.proofs.Counted.{kinds_above}
use Rattle.node_rows.proofs.cut.up_to.Goals as goal

pub returns-then-rows-i-clause-high : goal.returns-then-rows-i-clause-high
returns-then-rows-i-clause-high c = kinds_above c.args.kind c.args.rows.now c.loop-i.i c.index-rows-i.result c.requires c.loop-i-test.true c.index-rows-i.is c.if-rows-i.true
