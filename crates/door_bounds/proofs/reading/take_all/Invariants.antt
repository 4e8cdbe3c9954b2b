use Rattle.std.proofs.Common.{◌≡◌, drop, map}
use Rattle.door_bounds.specs.Walk.{seen, walked}
use Rattle.door_bounds.proofs.reading.take_all.Given as goal

abbrev pub invariant-loop-packet : goal.invariant-loop-packet
invariant-loop-packet l = walked l.bounds l.full (seen l.walk) (map (λ p. p.now) (drop l.packet-index l.packets)) ≡ walked l.bounds l.full (seen l.fn.walk) (map (λ p. p.now) l.packets)
