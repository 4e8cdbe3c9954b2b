use Rattle.std.proofs.Common.{take}
use Rattle.subscription_set.specs.Standing.{AreSeen}
use Rattle.subscription_set.proofs.set.are_seen.Given as goal

abbrev pub invariant-loop-dot : goal.invariant-loop-dot
invariant-loop-dot l = AreSeen l.seen (take l.dot-index l.entries)
