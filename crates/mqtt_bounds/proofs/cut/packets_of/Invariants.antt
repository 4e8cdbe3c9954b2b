use Rattle.std.proofs.Common.{◌≡◌, map, length}
use Rattle.mqtt_bounds.specs.Pieces.{before, cut}
use Rattle.mqtt_bounds.proofs.cut.packets_of.Given as goal

abbrev pub invariant-loop-used : goal.invariant-loop-used
invariant-loop-used l = cut l.limit l.bytes ≡ before (map (λ p. p.now) l.packets.items) (cut l.limit l.rest)

abbrev pub decreases-loop-used : goal.decreases-loop-used
decreases-loop-used l = length l.rest
