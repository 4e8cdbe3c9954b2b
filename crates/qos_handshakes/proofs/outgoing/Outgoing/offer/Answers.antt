use Rattle.std.proofs.Common.{ℕ, ◌<◌, List, [], ◌∷◌, ◌++◌, length, ap, refl, ◌∙◌, arith}
use Rattle.qos_handshakes.specs.Entries.{Held}
use Rattle.qos_handshakes.specs.Outbox.{waiting}
use Rattle.qos_handshakes.proofs.Counted.{counted-pushed, queue-length}
use Rattle.qos_handshakes.proofs.Marking.{credits-pushed, credits-most, watched-pushed}
use Rattle.qos_handshakes.proofs.Ordered.{on-err}
use Rattle.qos_handshakes.proofs.outgoing.Outgoing.offer.Goals as goal

pub overflow_sub-self-inside : goal.overflow_sub-self-inside
overflow_sub-self-inside c = omega (arith, queue-length _ _ _ c.self.invariant.counted.queued)

pub invariant_of-self-2 : goal.invariant_of-self-2
invariant_of-self-2 c =
    let is = ap (λ (h : Held). h.entries) c.in_ok-push.ensures.ok in
    record {
      counted = rw is (counted-pushed c.args.delivery _ _ _ _ _ c.requires c.self.invariant.counted);
      room = rw (is, credits-pushed c.self.inside.next_place c.args.delivery c.self.inside.copies.entries) (omega (arith, credits-most c.self.inside.copies.entries, c.count.ensures, c.in-Ok.ensures.room, c.mark.ensures.room));
    }

pub returns-clause-touched : goal.returns-clause-touched
returns-clause-touched c =
    rw (← c.self.view_is) (watched-pushed c.self.inside.next_place c.args.delivery _ _ c.self.inside.log c.mark.new.self c.self.invariant.counted.below (ap (λ (h : Held). h.entries) c.in_ok-push.ensures.ok) (c.mark.ensures.places ∙ ap (λ (ts : List ℕ). ts ++ c.self.inside.next_place ∷ []) c.reserve.ensures.same))

pub returns-then-self-ge-QUEUE_ROOM-clause-offered : goal.returns-then-self-ge-QUEUE_ROOM-clause-offered
returns-then-self-ge-QUEUE_ROOM-clause-offered c = (rw (← c.self.view_is) (omega (arith, queue-length _ _ _ c.self.invariant.counted.queued)), refl)

pub returns-then-self-ge-NUMBERS_END-clause-offered : goal.returns-then-self-ge-NUMBERS_END-clause-offered
returns-then-self-ge-NUMBERS_END-clause-offered c = rw (← c.self.view_is) (omega (arith, queue-length _ _ _ c.self.invariant.counted.queued), c.if-self-ge-NUMBERS_END.true, refl)

pub returns-clause-offered : goal.returns-clause-offered
returns-clause-offered c = rw (← c.self.view_is) (omega (arith, queue-length _ _ _ c.self.invariant.counted.queued), c.if-self-ge-NUMBERS_END.false, rw c.in_ok-push.ensures.ok refl)

pub returns-in_default-clause-need : goal.returns-in_default-clause-need
returns-in_default-clause-need c = rw (← c.self.view_is) (omega (arith, queue-length _ _ _ c.self.invariant.counted.queued), c.if-self-ge-NUMBERS_END.false)

pub returns-in_err-push-clause-need : goal.returns-in_err-push-clause-need
returns-in_err-push-clause-need c =
    let need : (length (waiting c.args.self.now.box.copies) < 65536) × (c.args.self.now.box.next_place < 4611686018427387904) =
    rw (← c.self.view_is) (omega (arith, queue-length _ _ _ c.self.invariant.counted.queued), c.if-self-ge-NUMBERS_END.false) in
    on-err c.from_residual.result need
