use Rattle.std.proofs.Common.{◌≡◌, ◌-◌}
use Rattle.qos_handshakes.specs.Outbox.{AreOwedWithin, without_large}
use Rattle.qos_handshakes.specs.Touched.{Marks}
use Rattle.qos_handshakes.proofs.outgoing.next_owed.Given as goal

abbrev pub invariant-loop-place : goal.invariant-loop-place
invariant-loop-place l = record {
  same : without_large l.now l.limit l.copies.entries ≡ without_large l.now l.limit l.fn.copies.entries;
  within : AreOwedWithin l.place l.until l.copies.entries;
  room : l.copies.slots ≡ l.fn.copies.slots;
  marks : Marks l.fn.copies.entries l.fn.log l.copies.entries l.log;
}

abbrev pub decreases-loop-place : goal.decreases-loop-place
decreases-loop-place l = l.until - l.place
