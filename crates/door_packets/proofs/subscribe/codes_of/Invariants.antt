use Rattle.std.proofs.Common.{◌≡◌, map, take}
use Rattle.door_packets.specs.Packets.{filter_code}
use Rattle.door_packets.proofs.subscribe.codes_of.Given as goal

abbrev pub invariant-loop-filter : goal.invariant-loop-filter
invariant-loop-filter g l = l.codes.items ≡ map (filter_code (g.A.Access.rights l.access) l.login) (take l.filter-index l.filters)
