use Rattle.law_runs.proofs.Passing.{accepted_is_passed_on}
use Rattle.law_runs.proofs.step_publishing.accepted_is_passed_on.Goals as goal

pub returns : goal.returns
returns c = accepted_is_passed_on
