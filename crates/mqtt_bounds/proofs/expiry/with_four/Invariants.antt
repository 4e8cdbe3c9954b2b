use Rattle.std.proofs.Common.{◌≡◌, ◌==◌, not, take}
use Rattle.std.specs.List.{filter}
use Rattle.mqtt_bounds.proofs.expiry.with_four.Given as goal

abbrev pub invariant-loop-property : goal.invariant-loop-property
invariant-loop-property l = l.put ≡ filter (λ p. not (p.id == l.id)) (take l.property-index l.items)
