use Rattle.std.proofs.Common.{◌≡◌, length}
use Rattle.door_packets.specs.Going.{may_go}
use Rattle.door_packets.proofs.sending.may_go.Given as goal

abbrev pub invariant-loop-used : goal.invariant-loop-used
invariant-loop-used g l = may_go (g.A.Access.rights l.access) l.login l.bytes ≡ may_go (g.A.Access.rights l.access) l.login l.rest

abbrev pub decreases-loop-used : goal.decreases-loop-used
decreases-loop-used g l = length l.rest
