use Rattle.law_runs.proofs.StepAnswering.{unsuback_tells}
use Rattle.law_runs.proofs.step_asking.answered_is_removed.Goals as goal

pub returns : goal.returns
returns c = unsuback_tells
