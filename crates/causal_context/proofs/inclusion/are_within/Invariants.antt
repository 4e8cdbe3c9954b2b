use Rattle.std.proofs.Common.{take}
use Rattle.causal_context.specs.Ranges.{AreBelow}
use Rattle.causal_context.proofs.inclusion.are_within.Given as goal

abbrev pub invariant-loop-range : goal.invariant-loop-range
invariant-loop-range l = AreBelow (take l.range-index l.a) l.b
