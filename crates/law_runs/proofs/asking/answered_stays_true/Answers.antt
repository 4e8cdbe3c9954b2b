use Rattle.law_runs.proofs.AskingLaws.{suback_stays_true, unsuback_stays_true}
use Rattle.law_runs.proofs.asking.answered_stays_true.Goals as goal

pub returns-clause-granted : goal.returns-clause-granted
returns-clause-granted c = suback_stays_true

pub returns-clause-ended : goal.returns-clause-ended
returns-clause-ended c = unsuback_stays_true
