use Rattle.std.proofs.Common.{◌≡◌, ◌<◌, length}
use Rattle.std.specs.List.{AllByRecursion}
use Rattle.qos_handshakes.specs.Outbox.{order_above, stage_order}
use Rattle.qos_handshakes.proofs.Ordered.{above_onto}
use Rattle.qos_handshakes.proofs.copies.order_above.Given as goal

abbrev pub invariant-loop-entry : goal.invariant-loop-entry
invariant-loop-entry l = record {
  same : above_onto l.left l.above ≡ order_above l.entries.entries;
  orders : AllByRecursion (λ x. stage_order x.stage < 4611686018427387904) l.left;
}

abbrev pub decreases-loop-entry : goal.decreases-loop-entry
decreases-loop-entry l = length l.left
