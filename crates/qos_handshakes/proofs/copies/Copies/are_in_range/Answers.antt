use Rattle.qos_handshakes.proofs.Indexed.{in-range}
use Rattle.qos_handshakes.proofs.copies.Copies.are_in_range.Goals as goal

pub returns : goal.returns
returns c = rw (← c.self.view_is) (in-range _ _ c.self.invariant)
