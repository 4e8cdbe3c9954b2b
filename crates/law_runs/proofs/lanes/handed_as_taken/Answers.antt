use Rattle.law_runs.proofs.LaneLaws.{handed_as_taken}
use Rattle.law_runs.proofs.lanes.handed_as_taken.Goals as goal

pub returns : goal.returns
returns c = handed_as_taken
