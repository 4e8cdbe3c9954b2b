use Rattle.law_handshakes.proofs.OpenLaws.{keeps_resends_open}
use Rattle.law_handshakes.proofs.resends.resends_are_unanswered.Goals as goal

pub returns : goal.returns
returns c = keeps_resends_open
