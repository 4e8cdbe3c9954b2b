use Rattle.law_handshakes.proofs.KeptLaws.{keeps}
use Rattle.law_handshakes.proofs.kept.crash_leaves_what_is_kept.Goals as goal

pub returns : goal.returns
returns c = keeps
