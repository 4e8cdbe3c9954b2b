use Rattle.cli_reports.specs.Figures.{AreGreatest}
use Rattle.cli_reports.proofs.figures.greatest_in.Given as goal

abbrev pub invariant-loop-node : goal.invariant-loop-node
invariant-loop-node l = AreGreatest l.taken l.node l.numbers.items
