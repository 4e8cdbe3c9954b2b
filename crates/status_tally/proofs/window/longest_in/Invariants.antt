use Rattle.std.proofs.Common.{◌≡◌, drop}
use Rattle.status_tally.specs.Windows.{longest_of}
use Rattle.status_tally.proofs.window.longest_in.Given as goal

abbrev pub invariant-loop-mark : goal.invariant-loop-mark
invariant-loop-mark l = longest_of l.at l.longest (drop l.mark-index l.marks) ≡ longest_of l.at l.from l.marks
