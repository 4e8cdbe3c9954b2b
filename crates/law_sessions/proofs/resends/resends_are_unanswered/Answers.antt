use Rattle.law_sessions.proofs.ExchangeLaws.{keeps_resends}
use Rattle.law_sessions.proofs.resends.resends_are_unanswered.Goals as goal

pub returns : goal.returns
returns c = keeps_resends
