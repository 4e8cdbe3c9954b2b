use Rattle.std.proofs.Common.{◌≤◌, ◌-◌, length}
use Rattle.qos_handshakes.specs.Restoring.{IsPadded}
use Rattle.qos_handshakes.proofs.copies.grow.Given as goal

abbrev pub invariant-loop-places : goal.invariant-loop-places
invariant-loop-places l = record {
  padded : IsPadded l.fn.places l.places;
  small : length l.places ≤ 65535;
}

abbrev pub decreases-loop-places : goal.decreases-loop-places
decreases-loop-places l = l.len - length l.places
