use Rattle.law_runs.proofs.FirstConnect.{first_connect_is_answered}
use Rattle.law_runs.proofs.connecting.first_connect_is_answered.Goals as goal

pub returns : goal.returns
returns c = first_connect_is_answered
