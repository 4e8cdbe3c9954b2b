use Rattle.std.proofs.Common.{take}
use Rattle.causal_context.specs.Dots.{dot_cmp}
use Rattle.subscription_set.specs.Sorted.{Rises}
use Rattle.subscription_set.proofs.set.are_rising.Given as goal

abbrev pub invariant-loop-i : goal.invariant-loop-i
invariant-loop-i l = Rises dot_cmp (take l.i l.entries)
