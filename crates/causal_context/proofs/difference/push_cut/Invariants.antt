use Rattle.std.proofs.Common.{length, ◌-◌}
use Rattle.causal_context.proofs.Cutting.{IsCutting}
use Rattle.causal_context.proofs.difference.push_cut.Given as goal

abbrev pub invariant-loop-place : goal.invariant-loop-place
invariant-loop-place l = IsCutting l.fn.out.items l.range l.cuts l.place l.first l.out.items

abbrev pub decreases-loop-place : goal.decreases-loop-place
decreases-loop-place l = length l.cuts - l.place
