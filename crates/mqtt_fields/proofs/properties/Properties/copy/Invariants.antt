use Rattle.std.proofs.Common.{◌≡◌, take}
use Rattle.mqtt_fields.proofs.properties.Properties.copy.Given as goal

abbrev pub invariant-loop-p : goal.invariant-loop-p
invariant-loop-p l = l.items.items ≡ take l.p-index l.self
