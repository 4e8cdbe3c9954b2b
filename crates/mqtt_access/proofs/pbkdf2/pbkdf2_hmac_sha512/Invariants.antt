use Rattle.std.proofs.Common.{◌≡◌, ◌-◌}
use Rattle.mqtt_access.specs.Pbkdf2.{u, xor_of}
use Rattle.mqtt_access.proofs.pbkdf2.pbkdf2_hmac_sha512.Given as goal

-- the U and the XOR of all so far
abbrev pub invariant-loop-step : goal.invariant-loop-step
invariant-loop-step l = record {
  last : l.last ≡ u l.password l.salt (l.step - 1);
  derived : l.derived ≡ xor_of l.password l.salt (l.step - 1);
}
