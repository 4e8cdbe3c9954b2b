use Rattle.law_deliveries.proofs.OwedLaws.{keeps_owed}
use Rattle.law_deliveries.proofs.UnansweredLaws.{keeps_open}
use Rattle.law_deliveries.proofs.resends.answers_end_their_own.Goals as goal

pub returns-clause-going : goal.returns-clause-going
returns-clause-going c = keeps_open

pub returns-clause-owed : goal.returns-clause-owed
returns-clause-owed c = keeps_owed
