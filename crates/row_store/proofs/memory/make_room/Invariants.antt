use Rattle.std.proofs.Common.{◌≡◌, ℕ, ◌<◌, get_or}
use Rattle.row_store.specs.declared.memory.Step.{Step}
use Rattle.row_store.specs.Cells.{shown, IsReady}
use Rattle.row_store.proofs.memory.make_room.Given as goal

abbrev pub invariant-loop-step : goal.invariant-loop-step
invariant-loop-step l = record {
  same : shown l.cells.entries ≡ shown l.fn.cells.entries;
  ready : (k : ℕ) (d : Step) → k < l.step-index → IsReady l.cells.entries (get_or l.steps k d);
}
