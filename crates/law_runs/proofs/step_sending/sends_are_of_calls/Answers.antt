use Rattle.law_runs.proofs.StepSendingLaws.{sends_are_of_calls}
use Rattle.law_runs.proofs.step_sending.sends_are_of_calls.Goals as goal

pub returns : goal.returns
returns c = sends_are_of_calls
