use Rattle.law_handshakes.proofs.AgreeLaws.{keeps-agreed}
use Rattle.law_handshakes.proofs.kept.entries_agree.Goals as goal

pub returns : goal.returns
returns c = keeps-agreed
