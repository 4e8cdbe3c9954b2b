use Rattle.law_runs.proofs.LaneLaws.{lanes_go_on, takes_in_order}
use Rattle.law_runs.proofs.lanes.lanes_keep_order.Goals as goal

pub returns : goal.returns
returns c = record { order = takes_in_order; on = lanes_go_on }
