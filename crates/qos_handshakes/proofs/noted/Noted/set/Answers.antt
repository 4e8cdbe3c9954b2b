use Rattle.std.proofs.Common.{sym}
use Rattle.qos_handshakes.proofs.Notes.{noted-set_at}
use Rattle.qos_handshakes.proofs.noted.Noted.set.Goals as goal

pub invariant_of-self : goal.invariant_of-self
invariant_of-self c = noted-set_at _ _ _ c.args.slot c.args.value _ _ _ _ c.self.invariant (rw (sym c.self.view_is) at c.requires) c.index.ensures c.index-2.ensures c.with_bit-noted.ensures.same c.with_bit-noted.ensures.others c.with_bit.ensures.same c.with_bit.ensures.others
