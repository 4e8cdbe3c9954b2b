use Rattle.law_handshakes.proofs.NumberLaws.{keeps_least}
use Rattle.law_handshakes.proofs.identifiers.identifiers_are_least.Goals as goal

pub returns : goal.returns
returns c = keeps_least
