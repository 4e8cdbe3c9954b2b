use Rattle.std.proofs.Common.{true}
use Rattle.subscription_set.proofs.Picking.{IsPicked}
use Rattle.subscription_set.proofs.dots.DotSet.context.Given as goal

abbrev pub invariant-loop-dot : goal.invariant-loop-dot
invariant-loop-dot l = IsPicked (λ _. true) l.context l.dot-iterator l.initial.dot-iterator
