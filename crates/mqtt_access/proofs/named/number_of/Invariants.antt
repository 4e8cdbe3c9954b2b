use Rattle.std.proofs.Common.{◌≡◌, ◌<◌, drop}
use Rattle.mqtt_access.specs.Named.{number_by, number_of}
use Rattle.mqtt_access.proofs.named.number_of.Given as goal

abbrev pub invariant-loop-byte : goal.invariant-loop-byte
invariant-loop-byte l = record { small : l.number < 16384; same : number_by l.number (drop l.byte-index l.name) ≡ number_of l.name }
