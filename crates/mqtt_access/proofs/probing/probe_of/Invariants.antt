use Rattle.std.proofs.Common.{◌≡◌, true}
use Rattle.mqtt_access.specs.Probing.{is_plain_up_to, is_probe_if}
use Rattle.mqtt_access.proofs.probing.probe_of.Given as goal

abbrev pub invariant-loop-at : goal.invariant-loop-at
invariant-loop-at l = record { plain : is_plain_up_to l.at l.filter ≡ true; probe : is_probe_if l.filter l.probe ≡ true }
