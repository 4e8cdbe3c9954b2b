use Rattle.law_nodes.proofs.LaneRows.{rows_are}
use Rattle.law_nodes.proofs.lanes.lane_rows_are.Goals as goal

pub returns : goal.returns
returns c = rows_are
