use Rattle.std.proofs.Common.{rules, drop, ap, ◌∙◌, ◌+◌}
use Rattle.row_store.specs.Cells.{after_steps}
use Rattle.row_store.proofs.CellLemmas.{plan_step}
use Rattle.row_store.proofs.memory.plan.Goals as goal
use Rattle.row_store.specs.Rows.{after_all}

pub loop-change-preserved : goal.loop-change-preserved
loop-change-preserved c = record {
  left = λ x.
      ap (λ s. after_all (after_steps x s) (drop (c.loop-change.change-index + 1) c.args.changes.now)) c.in_ok-push.ensures.items
      ∙ plan_step x c.loop-change.steps.items c.in_ok-step_of.field-0 c.args.changes.now c.loop-change.change-index c.change-item.result (search rules) (search rules) c.in_ok-step_of.ensures (c.loop-change.invariant.left x);
}
