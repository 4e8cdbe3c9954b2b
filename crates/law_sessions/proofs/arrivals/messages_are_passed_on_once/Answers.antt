use Rattle.law_sessions.proofs.ArrivalLaws.{keeps_once}
use Rattle.law_sessions.proofs.arrivals.messages_are_passed_on_once.Goals as goal

pub returns : goal.returns
returns c = keeps_once
