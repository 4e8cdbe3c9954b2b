use Rattle.std.proofs.Common.{◌-◌}
use Rattle.broker_holds.proofs.patience.body_of.Given as goal

abbrev pub decreases-loop-at : goal.decreases-loop-at
decreases-loop-at l = 5 - l.at
