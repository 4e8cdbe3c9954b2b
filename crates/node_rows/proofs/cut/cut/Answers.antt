use Rattle.node_rows.proofs.Counted.{later_sorted}
use Rattle.node_rows.proofs.Opening.{cut_so}
use Rattle.node_rows.proofs.cut.cut.Goals as goal

pub up_to-requires-2 : goal.up_to-requires-2
up_to-requires-2 c = later_sorted c.args.rows.now c.split_at.result.1.now c.up_to.result c.split_at.ensures.back c.requires

pub up_to-requires-3 : goal.up_to-requires-3
up_to-requires-3 c =
    later_sorted c.split_at.result.1.now c.split_at-2.result.1.now c.up_to-2.result c.split_at-2.ensures.back (later_sorted c.args.rows.now c.split_at.result.1.now c.up_to.result c.split_at.ensures.back c.requires)

pub returns : goal.returns
returns c =
    cut_so c.args.rows.now c.split_at.result.0.now c.split_at.result.1.now c.split_at-2.result.0.now c.split_at-2.result.1.now c.split_at-3.result.0.now c.split_at-3.result.1.now c.up_to.result c.up_to-2.result c.up_to-3.result c.split_at.ensures.front c.split_at.ensures.back c.split_at.ensures.by_index.0
    c.split_at-2.ensures.front c.split_at-2.ensures.back c.split_at-2.ensures.by_index.0 c.split_at-3.ensures.front c.split_at-3.ensures.back c.split_at-3.ensures.by_index.0 c.up_to.ensures.low c.up_to.ensures.high c.up_to-2.ensures.low c.up_to-2.ensures.high c.up_to-3.ensures.low c.up_to-3.ensures.high
