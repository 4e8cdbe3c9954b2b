use Rattle.law_sessions.proofs.LiftLaws.{keeps_resends_continued}
use Rattle.law_sessions.proofs.resends.resends_continue_a_session.Goals as goal

pub returns : goal.returns
returns c = keeps_resends_continued
