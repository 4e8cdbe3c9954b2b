use Rattle.std.proofs.Common.{◌≡◌, ◌+◌, length, drop}
use Rattle.qos_handshakes.specs.Outbox.{waiting}
use Rattle.session_rows.proofs.reachable.may_wait.Given as goal

abbrev pub invariant-loop-copy : goal.invariant-loop-copy
invariant-loop-copy l = length (waiting l.copies) + l.left ≡ 65536 + length (waiting (drop l.copy-index l.copies))
