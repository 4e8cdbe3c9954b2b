use Rattle.subscription_set.proofs.Matched.{IsAdded}
use Rattle.subscription_set.proofs.by_filter.add_all.Given as goal

abbrev pub invariant-loop-dot : goal.invariant-loop-dot
invariant-loop-dot l = IsAdded l.initial.out l.initial.dot-iterator l.out l.dot-iterator
