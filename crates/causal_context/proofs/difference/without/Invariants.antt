use Rattle.causal_context.proofs.Cutting.{IsCutUpTo}
use Rattle.causal_context.proofs.difference.without.Given as goal

abbrev pub invariant-loop-range : goal.invariant-loop-range
invariant-loop-range l = IsCutUpTo l.ranges l.cuts l.range-index l.place l.out.items
