use Rattle.std.proofs.Common.{◌≡◌, drop}
use Rattle.row_store.specs.Cells.{after_steps}
use Rattle.row_store.proofs.memory.plan.Given as goal
use Rattle.row_store.specs.Rows.{Content, after_all}

abbrev pub invariant-loop-change : goal.invariant-loop-change
invariant-loop-change l = record { left : (c : Content) → after_all (after_steps c l.steps.items) (drop l.change-index l.changes) ≡ after_all c l.changes }
