use Rattle.bridge_deltas.specs.Confirmed.{IsConfirmed}
use Rattle.bridge_deltas.proofs.buffer.count_confirmed.Given as goal

abbrev pub invariant-loop-i : goal.invariant-loop-i
invariant-loop-i l = IsConfirmed l.belief l.i l.deltas.items
