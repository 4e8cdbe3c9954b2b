use Rattle.std.proofs.Common.{◌≡◌, ℕ, ◌-◌, ◌*◌, ◌<◌, ◌≤◌, length}
use Rattle.qos_handshakes.specs.Noted.{bit}
use Rattle.qos_handshakes.proofs.bits.first_clear.Given as goal

abbrev pub invariant-loop-i : goal.invariant-loop-i
invariant-loop-i l = record {
  within : l.i ≤ length l.words;
  set : (k : ℕ) → k < 64 * l.i → bit l.words k ≡ 1;
}

abbrev pub decreases-loop-i : goal.decreases-loop-i
decreases-loop-i l = length l.words - l.i
