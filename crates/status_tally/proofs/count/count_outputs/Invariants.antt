use Rattle.std.proofs.Common.{◌≡◌, drop}
use Rattle.status_tally.specs.Counting.{with_outputs}
use Rattle.status_tally.proofs.count.count_outputs.Given as goal

abbrev pub invariant-loop-output : goal.invariant-loop-output
invariant-loop-output l = with_outputs (drop l.output-index l.outputs) l.total ≡ with_outputs l.outputs l.fn.total
