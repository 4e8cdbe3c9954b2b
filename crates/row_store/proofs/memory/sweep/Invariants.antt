use Rattle.std.proofs.Common.{◌≡◌}
use Rattle.row_store.specs.Cells.{shown}
use Rattle.row_store.proofs.memory.sweep.Given as goal

abbrev pub invariant-loop-step : goal.invariant-loop-step
invariant-loop-step l = record { same : shown l.cells.entries ≡ shown l.fn.cells.entries }
