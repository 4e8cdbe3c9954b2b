use Rattle.std.proofs.Common.{◌≡◌, drop}
use Rattle.status_tally.specs.Counting.{open_with}
use Rattle.status_tally.proofs.count.open_with.Given as goal

abbrev pub invariant-loop-output : goal.invariant-loop-output
invariant-loop-output l = open_with (drop l.output-index l.outputs) l.left ≡ open_with l.outputs l.count
