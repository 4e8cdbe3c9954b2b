use Rattle.law_handshakes.proofs.ArrivalLaws.{keeps_once}
use Rattle.law_handshakes.proofs.arrivals.messages_come_once.Goals as goal

pub returns : goal.returns
returns c = keeps_once
