use Rattle.std.proofs.Common.{drop}
use Rattle.std.specs.List.{AllByRecursion}
use Rattle.bridge_frames.specs.Forwards.{pick}
use Rattle.bridge_frames.proofs.pick.all_have_spellings.Given as goal

abbrev pub invariant-loop-pick : goal.invariant-loop-pick
invariant-loop-pick l = AllByRecursion pick.Fits (drop l.pick-index l.list) → AllByRecursion pick.Fits l.list
