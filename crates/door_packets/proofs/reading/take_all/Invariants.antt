use Rattle.std.proofs.Common.{◌≡◌, drop, map}
use Rattle.door_packets.specs.Marks.{is_marked}
use Rattle.door_packets.specs.Walk.{seen, walked}
use Rattle.door_packets.proofs.reading.take_all.Given as goal

abbrev pub invariant-loop-packet : goal.invariant-loop-packet
invariant-loop-packet g l = walked (g.A.Access.rights l.access) (is_marked l.marks) (seen l.walk) (map (λ p. p.now) (drop l.packet-index l.packets)) ≡ walked (g.A.Access.rights l.access) (is_marked l.marks) (seen l.fn.walk) (map (λ p. p.now) l.packets)
