use Rattle.std.proofs.Common.{◌≡◌, suc, take, drop}
use Rattle.bridge_deltas.specs.Lane.{frames_from}
use Rattle.bridge_deltas.proofs.lane.frames_of.Given as goal

abbrev pub invariant-loop-i : goal.invariant-loop-i
invariant-loop-i l = l.out.items ≡ frames_from l.from l.to (suc l.gone) (take l.i (drop l.place l.messages.items))
