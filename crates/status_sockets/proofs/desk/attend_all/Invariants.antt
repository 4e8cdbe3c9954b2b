use Rattle.std.proofs.Common.{take}
use Rattle.status_sockets.specs.Desks.{AreInTime}
use Rattle.status_sockets.proofs.desk.attend_all.Given as goal

-- those at the places that had their turn are in time
abbrev pub invariant-loop-place : goal.invariant-loop-place
invariant-loop-place g l = AreInTime l.at (take l.place-index l.places)
