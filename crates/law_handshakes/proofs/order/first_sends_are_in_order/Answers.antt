use Rattle.law_handshakes.proofs.OrderLaws.{keeps_order}
use Rattle.law_handshakes.proofs.order.first_sends_are_in_order.Goals as goal

pub returns : goal.returns
returns c = keeps_order
