use Rattle.law_handshakes.proofs.KeptLaws.{keeps-touched}
use Rattle.law_handshakes.proofs.kept.changes_are_touched.Goals as goal

pub returns : goal.returns
returns c = keeps-touched
