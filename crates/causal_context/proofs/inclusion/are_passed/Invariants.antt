use Rattle.std.proofs.Common.{◌+◌, ◌-◌, length}
use Rattle.causal_context.proofs.Below.{IsBelowUpTo}
use Rattle.causal_context.proofs.inclusion.are_passed.Given as goal

abbrev pub invariant-loop-i : goal.invariant-loop-i
invariant-loop-i l = IsBelowUpTo l.a l.b l.i l.j

abbrev pub decreases-loop-i : goal.decreases-loop-i
decreases-loop-i l = (length l.a - l.i) + (length l.b - l.j)
