use Rattle.law_runs.proofs.LaneLaws.{joins_as_taken}
use Rattle.law_runs.proofs.lanes.joins_as_taken.Goals as goal

pub returns : goal.returns
returns c = joins_as_taken
