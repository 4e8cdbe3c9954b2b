use Rattle.law_runs.proofs.StepAnswering.{suback_tells}
use Rattle.law_runs.proofs.step_asking.granted_is_subscribed.Goals as goal

pub returns : goal.returns
returns c = suback_tells
