use Rattle.std.proofs.Common.{◌≡◌, ◌++◌}
use Rattle.qos_handshakes.proofs.log.rising_of.Given as goal

abbrev pub invariant-loop-place : goal.invariant-loop-place
invariant-loop-place l = l.rising.items ++ l.place-iterator ≡ l.set.keys
