use Rattle.std.specs.FinMap as map
use Rattle.subscription_set.specs.Indexing.{below_at}
use Rattle.subscription_set.proofs.Picking.{IsPicked}
use Rattle.subscription_set.proofs.live.those_below.Given as goal

abbrev pub invariant-loop-dot : goal.invariant-loop-dot
invariant-loop-dot l = IsPicked (λ d. below_at l.version (map.get l.entries d)) l.out l.dot-iterator l.initial.dot-iterator
