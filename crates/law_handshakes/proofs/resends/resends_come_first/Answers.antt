use Rattle.law_handshakes.proofs.ResendLaws.{keeps_resends_first}
use Rattle.law_handshakes.proofs.resends.resends_come_first.Goals as goal

pub returns : goal.returns
returns c = keeps_resends_first
