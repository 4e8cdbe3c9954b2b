use Rattle.std.proofs.Common.{sym, arith, inl, inr}
use Rattle.qos_handshakes.proofs.RestoringLaws.{disagree-next, disagree-back, counted-restored}
use Rattle.qos_handshakes.proofs.Marking.{credits-most}
use Rattle.qos_handshakes.proofs.outgoing.Outgoing.from_entries.Goals as goal

pub returns-then-next_place-eq0-clause-made : goal.returns-then-next_place-eq0-clause-made
returns-then-next_place-eq0-clause-made c =
    disagree-next c.args.next_place c.args.entries.items (λ b. elim c.then-next_place-eq0.either [ inl z ↦ omega (arith, b.0, z) | inr p ↦ omega (arith, b.1, p.1) ])

pub returns-then-not-may_precede-clause-made : goal.returns-then-not-may_precede-clause-made
returns-then-not-may_precede-clause-made c =
    disagree-back c.args.next_place c.in-Some.place c.loop-place.left.items _ c.loop-place.back.entries c.args.entries.items c.in-Some.entry c.loop-place.invariant.all c.in-Some.ensures.items (rw c.loop-place.invariant.next at (sym c.if-not-may_precede.ensures))

pub invariant_of-result : goal.invariant_of-result
invariant_of-result c = record {
  counted = counted-restored _ _ _ _ _ _ _ c.back-2.invariant;
  room = omega (arith, credits-most c.back-2.inside.copies.entries, c.in_ok-log.ensures.room, c.count.ensures);
}
