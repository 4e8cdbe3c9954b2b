use Rattle.law_sessions.proofs.LiftLaws.{keeps_at_most_once}
use Rattle.law_sessions.proofs.order.at_most_once_is_sent_at_once.Goals as goal

pub returns : goal.returns
returns c = keeps_at_most_once
