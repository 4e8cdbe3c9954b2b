use Rattle.law_sessions.proofs.LiftLaws.{keeps_resends_in_order}
use Rattle.law_sessions.proofs.resends.resends_are_in_order.Goals as goal

pub returns : goal.returns
returns c = keeps_resends_in_order
