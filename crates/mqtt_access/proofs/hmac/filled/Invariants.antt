use Rattle.std.proofs.Common.{◌≡◌, ℕ, ◌<◌, ◌≤◌, get_or, length}
use Rattle.mqtt_access.proofs.hmac.filled.Given as goal

-- the bytes so far, and zeros
abbrev pub invariant-loop-i : goal.invariant-loop-i
invariant-loop-i l = record {
  len : length l.block ≡ 128;
  done : (k : ℕ) → k < l.i → get_or l.block k 0 ≡ get_or l.bytes k 0;
  left : (k : ℕ) → l.i ≤ k → k < 128 → get_or l.block k 0 ≡ 0;
}
