use Rattle.std.proofs.Common.{◌≡◌, length, drop}
use Rattle.row_store.specs.Cells.{shown, after_steps, AreReady}
use Rattle.row_store.proofs.memory.make_steps.Given as goal

abbrev pub invariant-loop-i : goal.invariant-loop-i
invariant-loop-i l = record {
  len : length l.steps.items ≡ length l.fn.steps.items;
  rest : drop l.i l.steps.items ≡ drop l.i l.fn.steps.items;
  ready : AreReady l.cells.entries l.fn.steps.items;
  left : after_steps (shown l.cells.entries) (drop l.i l.fn.steps.items) ≡ after_steps (shown l.fn.cells.entries) l.fn.steps.items;
}
