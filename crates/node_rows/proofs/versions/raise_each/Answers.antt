use Rattle.std.proofs.Common.{arith, map as map_list, subst, sym, take}
use Rattle.row_store.specs.Rows.{entry_of}
use Rattle.node_rows.specs.Versions.{AreRaising}
use Rattle.node_rows.proofs.Counted.{all_before_end, taken_more}
use Rattle.node_rows.proofs.versions.raise_each.Goals as goal

pub loop-row-preserved : goal.loop-row-preserved
loop-row-preserved c =
    subst (λ rows. AreRaising c.args.first rows c.raise_row.new.changes.items) (sym (taken_more c.args.rows.now c.loop-row.row-index c.row-item.result c.loop-row-test.true c.row-item.is))
    (c.in_ok-raise_row.ensures (map_list entry_of (take c.loop-row.row-index c.args.rows.now)) c.loop-row.invariant)

pub returns : goal.returns
returns c =
    subst (λ rows. AreRaising c.args.first rows c.loop-row.changes.items) (all_before_end c.args.rows.now c.loop-row.row-index (let h = c.loop-row-test.false in omega (arith, h))) c.loop-row.invariant
