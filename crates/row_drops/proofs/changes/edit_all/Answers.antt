use Rattle.std.proofs.Common.{◌++◌, ◌+◌, drop, map, ap, ◌∙◌}
use Rattle.bridge_lanes.specs.Changes.{left_of}
use Rattle.row_store.specs.Rows.{entry_of}
use Rattle.row_drops.specs.Dropping.{edit}
use Rattle.row_drops.specs.Editing.{edits}
use Rattle.row_drops.proofs.Edited.{one_more}
use Rattle.row_drops.proofs.changes.edit_all.Goals as goal

pub loop-row-preserved : goal.loop-row-preserved
loop-row-preserved c =
    ap (λ ls. ls ++ edits (edit c.args.target.now) (map entry_of (drop (c.loop-row.row-index + 1) c.args.rows.now))) c.in_ok-push_edit.ensures
    ∙ one_more (edit c.args.target.now) c.args.rows.now c.loop-row.row-index c.row-item.result (map left_of c.loop-row.changes.items) c.loop-row-test.true c.row-item.is c.loop-row.invariant
