use Rattle.std.proofs.Common.{arith, sym}
use Rattle.qos_handshakes.proofs.Notes.{noted-added_at}
use Rattle.qos_handshakes.proofs.noted.Noted.add.Goals as goal

pub invariant_of-self-2 : goal.invariant_of-self-2
invariant_of-self-2 c =
    noted-added_at _ _ _ _ _ _ _ (sym c.self.view_is) c.self.invariant c.in_ok-push.ensures.items c.lengthen-2.ensures.same c.lengthen.ensures.same
    c.lengthen-2.ensures.longer (omega (arith, c.lengthen-2.ensures.one, c.in_ok-lengthen.ensures.room, c.len.ensures)) c.lengthen-2.ensures.words c.lengthen.ensures.words (omega (arith, c.in_ok-lengthen-2.ensures.room, c.len-2.ensures)) c.requires
