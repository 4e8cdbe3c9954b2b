use Rattle.std.proofs.Common.{◌≡◌, ◌-◌}
use Rattle.qos_handshakes.specs.Outbox.{IsQueued, without_left_out}
use Rattle.qos_handshakes.specs.Touched.{Marks}
use Rattle.qos_handshakes.proofs.outgoing.skip.Given as goal

abbrev pub invariant-loop-place : goal.invariant-loop-place
invariant-loop-place l = record {
  same : without_left_out l.now l.limit l.copies.entries ≡ without_left_out l.now l.limit l.fn.copies.entries;
  queued : IsQueued l.place l.next l.copies.entries;
  room : l.copies.slots ≡ l.fn.copies.slots;
  marks : Marks l.fn.copies.entries l.fn.log l.copies.entries l.log;
}

abbrev pub decreases-loop-place : goal.decreases-loop-place
decreases-loop-place l = l.next - l.place
