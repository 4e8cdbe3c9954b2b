use Rattle.law_runs.proofs.LaneLaws.{counts_taken, waits_past}
use Rattle.law_runs.proofs.lanes.lanes_lose_nothing.Goals as goal

pub returns : goal.returns
returns c = record { waits = waits_past; counts = counts_taken }
