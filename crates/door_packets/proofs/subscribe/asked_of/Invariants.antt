use Rattle.std.proofs.Common.{◌≡◌, take}
use Rattle.std.specs.List.{filter}
use Rattle.door_packets.specs.Packets.{is_asked}
use Rattle.door_packets.proofs.subscribe.asked_of.Given as goal

abbrev pub invariant-loop-filter : goal.invariant-loop-filter
invariant-loop-filter g l = l.asked.items ≡ filter (is_asked (g.A.Access.rights l.access) l.login) (take l.filter-index l.filters)
