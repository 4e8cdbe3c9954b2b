use Rattle.law_handshakes.proofs.ArrivalLaws.{keeps_maximum}
use Rattle.law_handshakes.proofs.arrivals.maximum_is_kept.Goals as goal

pub returns : goal.returns
returns c = keeps_maximum
