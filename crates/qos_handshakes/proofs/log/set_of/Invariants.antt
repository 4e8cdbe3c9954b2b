use Rattle.std.proofs.Common.{drop}
use Rattle.qos_handshakes.proofs.Marking.{IsMade}
use Rattle.qos_handshakes.proofs.log.set_of.Given as goal

abbrev pub invariant-loop-place : goal.invariant-loop-place
invariant-loop-place l = IsMade l.set.keys (drop l.place-index l.places) l.places
