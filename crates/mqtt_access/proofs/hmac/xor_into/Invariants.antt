use Rattle.std.proofs.Common.{◌≡◌, ℕ, ◌<◌, ◌≤◌, length, get_or}
use Rattle.std.specs.Prelude.{bit_xor}
use Rattle.mqtt_access.proofs.hmac.xor_into.Given as goal

abbrev pub invariant-loop-i : goal.invariant-loop-i
invariant-loop-i l = record {
  len : length l.bytes ≡ length l.fn.bytes;
  done : (k : ℕ) → k < l.i → get_or l.bytes k 0 ≡ bit_xor (get_or l.fn.bytes k 0) (get_or l.others k 0);
  left : (k : ℕ) → l.i ≤ k → get_or l.bytes k 0 ≡ get_or l.fn.bytes k 0;
}
