use Rattle.qos_handshakes.proofs.Marking.{place-of}
use Rattle.qos_handshakes.proofs.copies.Copies.place_of.Goals as goal

pub returns : goal.returns
returns c = rw (← c.self.view_is, c.place_of.ensures) (place-of _ _ c.args.id c.self.invariant (rw (← c.self.view_is) at c.requires))
