use Rattle.std.proofs.Common.{◌≡◌, drop}
use Rattle.bridge_deltas.specs.Shipped.{dots_with}
use Rattle.bridge_deltas.proofs.buffer.dots_with.Given as goal

abbrev pub invariant-loop-i : goal.invariant-loop-i
invariant-loop-i l = dots_with l.dots (drop l.i l.deltas.items) ≡ dots_with l.belief l.deltas.items
