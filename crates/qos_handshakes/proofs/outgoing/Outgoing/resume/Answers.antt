use Rattle.std.proofs.Common.{ap}
use Rattle.qos_handshakes.specs.Entries.{Held}
use Rattle.qos_handshakes.proofs.Owed.{counted-resumed}
use Rattle.qos_handshakes.proofs.Marking.{credits-away, watched-away}
use Rattle.qos_handshakes.proofs.outgoing.Outgoing.resume.Goals as goal

pub invariant_of-self : goal.invariant_of-self
invariant_of-self c = record {
  counted = counted-resumed _ _ _ _ _ _ c.self.invariant.counted (ap (λ (h : Held). h.entries) c.resume.ensures);
  room = rw (ap (λ (h : Held). h.entries) c.resume.ensures, credits-away c.self.inside.copies.entries) c.self.invariant.room;
}

pub returns-clause-touched : goal.returns-clause-touched
returns-clause-touched c = rw (← c.self.view_is) (watched-away _ _ _ _ c.self.invariant.counted.below (ap (λ (h : Held). h.entries) c.resume.ensures))
