use Rattle.std.proofs.Common.{◌≡◌, take}
use Rattle.bridge_frames.proofs.pick.copied.Given as goal

abbrev pub invariant-loop-pick : goal.invariant-loop-pick
invariant-loop-pick l = l.out.items ≡ take l.pick-index l.list
