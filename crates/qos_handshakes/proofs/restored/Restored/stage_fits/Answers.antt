use Rattle.std.proofs.Common.{arith}
use Rattle.qos_handshakes.proofs.RestoringLaws.{first-small}
use Rattle.qos_handshakes.proofs.restored.Restored.stage_fits.Goals as goal

pub overflow_add-result : goal.overflow_add-result
overflow_add-result c =
    omega (arith, rw (← c.self.view_is) at c.requires, first-small c.self.inside.next_place c.self.inside.copies.entries c.self.invariant.agreed)
