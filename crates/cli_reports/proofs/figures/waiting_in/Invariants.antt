use Rattle.cli_reports.specs.Figures.{AreWaiting}
use Rattle.cli_reports.proofs.figures.waiting_in.Given as goal

abbrev pub invariant-loop-node : goal.invariant-loop-node
invariant-loop-node l = AreWaiting l.rows l.node l.counts.items
