use Rattle.law_nodes.proofs.LaneChanges.{changes_are, one_list_of_changes}
use Rattle.law_nodes.proofs.lanes.lane_changes_are.Goals as goal

pub returns-clause-those : goal.returns-clause-those
returns-clause-those c = changes_are

pub returns-clause-one : goal.returns-clause-one
returns-clause-one c = one_list_of_changes
