use Rattle.std.proofs.Common.{◌≡◌, replicate}
use Rattle.broker_holds.specs.Lanes.{empty_lane}
use Rattle.broker_holds.proofs.gauge.LaneGauge.new.Given as goal

abbrev pub invariant-loop : goal.invariant-loop
invariant-loop l = l.lanes.items ≡ replicate l.counter empty_lane
