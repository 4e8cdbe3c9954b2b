use Rattle.bridge_lanes.proofs.Rising.{rows_in_order}
use Rattle.bridge_lanes.proofs.laws.rows_rise.Goals as goal

pub returns : goal.returns
returns c = rows_in_order
