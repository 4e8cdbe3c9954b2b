use Rattle.law_runs.proofs.SendingLaws.{outputs_are_of_calls}
use Rattle.law_runs.proofs.sending.outputs_are_of_calls.Goals as goal

pub returns : goal.returns
returns c = outputs_are_of_calls
