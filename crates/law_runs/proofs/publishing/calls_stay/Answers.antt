use Rattle.law_runs.proofs.CallingLaws.{calls_stay}
use Rattle.law_runs.proofs.publishing.calls_stay.Goals as goal

pub returns : goal.returns
returns c = calls_stay
