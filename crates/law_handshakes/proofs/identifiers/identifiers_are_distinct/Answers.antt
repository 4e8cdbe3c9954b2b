use Rattle.law_handshakes.proofs.NumberLaws.{keeps_numbers}
use Rattle.law_handshakes.proofs.identifiers.identifiers_are_distinct.Goals as goal

pub returns : goal.returns
returns c = keeps_numbers
