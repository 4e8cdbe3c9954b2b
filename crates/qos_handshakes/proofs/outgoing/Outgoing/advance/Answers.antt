use Rattle.std.proofs.Common.{◌≡◌, ◌+◌, ◌<◌, Some, None, ap, ◌∙◌, arith, refl}
use Rattle.std.specs.Prelude.{IsSomeAnd}
use Rattle.qos_handshakes.specs.Entries.{Held, at_place}
use Rattle.qos_handshakes.specs.Outbox.{after_resend, first_owed, first_waiting, in_flight, resent, stage_id}
use Rattle.qos_handshakes.proofs.Counted.{counted-sent, counted-unsent, queue-length}
use Rattle.qos_handshakes.proofs.Advanced.{chooses-first, chooses-none_free, chooses-none_waits, chooses-nothing, chooses-resend, counted-again, counted-none, counted-within, one-free, one-waits, resend-can, room-resend, send-can, there-is}
use Rattle.qos_handshakes.proofs.Marking.{marks-then, marks-within, watched-marked}
use Rattle.qos_handshakes.proofs.Ordered.{on-err}
use Rattle.qos_handshakes.proofs.outgoing.Outgoing.advance.Goals as goal

pub returns-in_err-reserve_first-clause-some : goal.returns-in_err-reserve_first-clause-some
returns-in_err-reserve_first-clause-some c = rw (← c.self.view_is) (on-err _ (one-waits _ _ _ c.self.invariant.counted.queued c.in_err-reserve_first.ensures.some))

pub resend-owed-requires-clause-room : goal.resend-owed-requires-clause-room
resend-owed-requires-clause-room c = rw c.reserve_first.ensures.same c.self.invariant.room

pub resend-owed-requires-clause-within : goal.resend-owed-requires-clause-within
resend-owed-requires-clause-within c = counted-within _ _ _ _ _ _ c.self.invariant.counted c.reserve_first.ensures.same c.are_ordered.ensures

pub invariant_of-self-in-Some : goal.invariant_of-self-in-Some
invariant_of-self-in-Some c =
    let left : c.resend-owed.new.copies.entries ≡ after_resend c.args.now c.args.limit c.self.inside.copies.entries = ap (λ (h : Held). h.entries) c.resend-owed.ensures.left ∙ ap (after_resend c.args.now c.args.limit) c.reserve_first.ensures.same in
    let sent : IsSomeAnd (at_place c.in-Some.place c.resend-owed.new.copies.entries) (λ x. first_owed c.args.now c.args.limit c.self.inside.copies.entries ≡ Some (resent x)) = rw c.reserve_first.ensures.same at c.in-Some.ensures.sent in
    let its = there-is _ (λ x. first_owed c.args.now c.args.limit c.self.inside.copies.entries ≡ Some (resent x)) sent in
    record {
      counted = counted-again c.args.now c.args.limit (resent its.0) _ _ _ _ _ _ c.in-Some.place c.self.invariant.counted its.2 left c.in-Some.ensures.owed;
      room = (marks-within _ _ _ _ _ _ c.reserve_first.ensures.same c.resend-owed.ensures.marks refl).room c.self.invariant.room;
    }

pub returns-in-Some-clause-step : goal.returns-in-Some-clause-step
returns-in-Some-clause-step c =
    let left : c.resend-owed.new.copies.entries ≡ after_resend c.args.now c.args.limit c.self.inside.copies.entries = ap (λ (h : Held). h.entries) c.resend-owed.ensures.left ∙ ap (after_resend c.args.now c.args.limit) c.reserve_first.ensures.same in
    let sent : IsSomeAnd (at_place c.in-Some.place c.resend-owed.new.copies.entries) (λ x. first_owed c.args.now c.args.limit c.self.inside.copies.entries ≡ Some (resent x)) = rw c.reserve_first.ensures.same at c.in-Some.ensures.sent in
    let quota : in_flight c.self.inside.copies.entries < c.self.inside.maximum = omega (arith, c.self.invariant.counted.flight_is) in
    rw (← c.self.view_is) (chooses-resend c.args.now c.args.limit c.in-Some.place _ c.resend-owed.new.copies.entries quota left sent)

pub returns-in-Some-clause-touched : goal.returns-in-Some-clause-touched
returns-in-Some-clause-touched c =
    rw (← c.self.view_is) (watched-marked _ _ _ c.self.inside.log c.resend-owed.new.log c.self.invariant.counted.below (marks-within _ _ _ _ _ _ c.reserve_first.ensures.same c.resend-owed.ensures.marks refl))

pub returns-in-Some-clause-sent : goal.returns-in-Some-clause-sent
returns-in-Some-clause-sent c =
    let sent : IsSomeAnd (at_place c.in-Some.place c.resend-owed.new.copies.entries) (λ x. first_owed c.args.now c.args.limit c.self.inside.copies.entries ≡ Some (resent x)) = rw c.reserve_first.ensures.same at c.in-Some.ensures.sent in
    resend-can c.args.now c.args.limit c.in-Some.place _ _ c.self.invariant.counted.answered (rw c.reserve_first.ensures.same at c.are_in_range.ensures) sent

pub invariant_of-self-then-first-next : goal.invariant_of-self-then-first-next
invariant_of-self-then-first-next c =
    let left : c.resend-owed.new.copies.entries ≡ after_resend c.args.now c.args.limit c.self.inside.copies.entries = ap (λ (h : Held). h.entries) c.resend-owed.ensures.left ∙ ap (after_resend c.args.now c.args.limit) c.reserve_first.ensures.same in
    let none : first_owed c.args.now c.args.limit c.self.inside.copies.entries ≡ None = rw c.reserve_first.ensures.same at c.in_default.ensures.sent in
    record { counted = counted-none c.args.now c.args.limit _ _ _ _ _ _ _ c.self.invariant.counted none left; room = (marks-within _ _ _ _ _ _ c.reserve_first.ensures.same c.resend-owed.ensures.marks refl).room c.self.invariant.room }

pub returns-then-first-next-clause-step : goal.returns-then-first-next-clause-step
returns-then-first-next-clause-step c =
    let left : c.resend-owed.new.copies.entries ≡ after_resend c.args.now c.args.limit c.self.inside.copies.entries = ap (λ (h : Held). h.entries) c.resend-owed.ensures.left ∙ ap (after_resend c.args.now c.args.limit) c.reserve_first.ensures.same in
    let none : first_owed c.args.now c.args.limit c.self.inside.copies.entries ≡ None = rw c.reserve_first.ensures.same at c.in_default.ensures.sent in
    let quota : in_flight c.self.inside.copies.entries < c.self.inside.maximum = omega (arith, c.self.invariant.counted.flight_is) in
    let counted = counted-none c.args.now c.args.limit _ _ _ _ _ _ c.self.inside.first_waiting c.self.invariant.counted none left in
    rw (← c.self.view_is) (chooses-none_waits c.args.now c.args.limit c.self.inside.first_waiting c.self.inside.next_place _ c.resend-owed.new.copies.entries quota none left counted.queued (omega arith))

pub returns-then-first-next-clause-touched : goal.returns-then-first-next-clause-touched
returns-then-first-next-clause-touched c =
    rw (← c.self.view_is) (watched-marked _ _ _ c.self.inside.log c.resend-owed.new.log c.self.invariant.counted.below (marks-within _ _ _ _ _ _ c.reserve_first.ensures.same c.resend-owed.ensures.marks refl))

pub least_free-requires : goal.least_free-requires
least_free-requires c =
    let some : c.self.inside.first_waiting < c.self.inside.next_place = omega (arith, queue-length _ _ _ c.self.invariant.counted.queued) in
    room-resend c.args.now c.args.limit _ _ (c.in_ok-reserve_first.ensures.room some) c.resend-owed.ensures.left

pub invariant_of-self-in_default-least_free : goal.invariant_of-self-in_default-least_free
invariant_of-self-in_default-least_free c =
    let left : c.resend-owed.new.copies.entries ≡ after_resend c.args.now c.args.limit c.self.inside.copies.entries = ap (λ (h : Held). h.entries) c.resend-owed.ensures.left ∙ ap (after_resend c.args.now c.args.limit) c.reserve_first.ensures.same in
    let none : first_owed c.args.now c.args.limit c.self.inside.copies.entries ≡ None = rw c.reserve_first.ensures.same at c.in_default.ensures.sent in
    record { counted = counted-none c.args.now c.args.limit _ _ _ _ _ _ _ c.self.invariant.counted none left; room = (marks-within _ _ _ _ _ _ c.reserve_first.ensures.same c.resend-owed.ensures.marks refl).room c.self.invariant.room }

pub returns-in_default-least_free-clause-step : goal.returns-in_default-least_free-clause-step
returns-in_default-least_free-clause-step c =
    let left : c.resend-owed.new.copies.entries ≡ after_resend c.args.now c.args.limit c.self.inside.copies.entries = ap (λ (h : Held). h.entries) c.resend-owed.ensures.left ∙ ap (after_resend c.args.now c.args.limit) c.reserve_first.ensures.same in
    let none : first_owed c.args.now c.args.limit c.self.inside.copies.entries ≡ None = rw c.reserve_first.ensures.same at c.in_default.ensures.sent in
    let quota : in_flight c.self.inside.copies.entries < c.self.inside.maximum = omega (arith, c.self.invariant.counted.flight_is) in
    rw (← c.self.view_is) (chooses-none_free c.args.now c.args.limit _ c.resend-owed.new.copies.entries quota none left c.in_default-least_free.ensures)

pub returns-in_default-least_free-clause-touched : goal.returns-in_default-least_free-clause-touched
returns-in_default-least_free-clause-touched c =
    rw (← c.self.view_is) (watched-marked _ _ _ c.self.inside.log c.resend-owed.new.log c.self.invariant.counted.below (marks-within _ _ _ _ _ _ c.reserve_first.ensures.same c.resend-owed.ensures.marks refl))

pub send_first-sent-requires-clause-queued : goal.send_first-sent-requires-clause-queued
send_first-sent-requires-clause-queued c =
    let left : c.resend-owed.new.copies.entries ≡ after_resend c.args.now c.args.limit c.self.inside.copies.entries = ap (λ (h : Held). h.entries) c.resend-owed.ensures.left ∙ ap (after_resend c.args.now c.args.limit) c.reserve_first.ensures.same in
    let none : first_owed c.args.now c.args.limit c.self.inside.copies.entries ≡ None = rw c.reserve_first.ensures.same at c.in_default.ensures.sent in
    let counted = counted-none c.args.now c.args.limit _ _ _ _ _ _ c.self.inside.first_waiting c.self.invariant.counted none left in
    counted.queued

pub send_first-sent-requires-clause-room : goal.send_first-sent-requires-clause-room
send_first-sent-requires-clause-room c = (marks-within _ _ _ _ _ _ c.reserve_first.ensures.same c.resend-owed.ensures.marks refl).room c.self.invariant.room

pub invariant_of-self-in_default-sent : goal.invariant_of-self-in_default-sent
invariant_of-self-in_default-sent c =
    let left : c.resend-owed.new.copies.entries ≡ after_resend c.args.now c.args.limit c.self.inside.copies.entries = ap (λ (h : Held). h.entries) c.resend-owed.ensures.left ∙ ap (after_resend c.args.now c.args.limit) c.reserve_first.ensures.same in
    let none : first_owed c.args.now c.args.limit c.self.inside.copies.entries ≡ None = rw c.reserve_first.ensures.same at c.in_default.ensures.sent in
    record {
      counted = counted-unsent c.args.now c.args.limit c.in-Some-least_free.id _ _ _ _ _ _ (counted-none c.args.now c.args.limit _ _ _ _ _ _ c.self.inside.first_waiting c.self.invariant.counted none left) c.in_default-sent.ensures.sent (ap (λ (h : Held). h.entries) c.send_first-sent.ensures.left) c.in_default-sent.ensures.queued;
      room = (marks-then _ _ _ _ _ _ (marks-within _ _ _ _ _ _ c.reserve_first.ensures.same c.resend-owed.ensures.marks refl) c.send_first-sent.ensures.marks).room c.self.invariant.room;
    }

pub returns-in_default-sent-clause-step : goal.returns-in_default-sent-clause-step
returns-in_default-sent-clause-step c =
    let left : c.resend-owed.new.copies.entries ≡ after_resend c.args.now c.args.limit c.self.inside.copies.entries = ap (λ (h : Held). h.entries) c.resend-owed.ensures.left ∙ ap (after_resend c.args.now c.args.limit) c.reserve_first.ensures.same in
    let none : first_owed c.args.now c.args.limit c.self.inside.copies.entries ≡ None = rw c.reserve_first.ensures.same at c.in_default.ensures.sent in
    let quota : in_flight c.self.inside.copies.entries < c.self.inside.maximum = omega (arith, c.self.invariant.counted.flight_is) in
    rw (← c.self.view_is) (chooses-nothing c.args.now c.args.limit c.in-Some-least_free.id _ c.resend-owed.new.copies.entries c.send_first-sent.new.copies.entries quota none left c.in_default-sent.ensures.sent (ap (λ (h : Held). h.entries) c.send_first-sent.ensures.left) (one-free _ _ c.in-Some-least_free.ensures.0))

pub returns-in_default-sent-clause-touched : goal.returns-in_default-sent-clause-touched
returns-in_default-sent-clause-touched c =
    rw (← c.self.view_is) (watched-marked _ _ _ c.self.inside.log c.send_first-sent.new.log c.self.invariant.counted.below (marks-then _ _ _ _ _ _ (marks-within _ _ _ _ _ _ c.reserve_first.ensures.same c.resend-owed.ensures.marks refl) c.send_first-sent.ensures.marks))

pub overflow_add-self-2 : goal.overflow_add-self-2
overflow_add-self-2 c = omega (arith, queue-length _ _ _ c.in-Some-sent.ensures.queued)

pub invariant_of-self-2 : goal.invariant_of-self-2
invariant_of-self-2 c =
    let left : c.resend-owed.new.copies.entries ≡ after_resend c.args.now c.args.limit c.self.inside.copies.entries = ap (λ (h : Held). h.entries) c.resend-owed.ensures.left ∙ ap (after_resend c.args.now c.args.limit) c.reserve_first.ensures.same in
    let none : first_owed c.args.now c.args.limit c.self.inside.copies.entries ≡ None = rw c.reserve_first.ensures.same at c.in_default.ensures.sent in
    let its = there-is _ (λ x. (stage_id x.stage ≡ c.in-Some-least_free.id) × (first_waiting c.args.now c.args.limit c.resend-owed.new.copies.entries ≡ Some x.delivery)) c.in-Some-sent.ensures.sent in
    record {
      counted = counted-sent c.args.now c.args.limit c.in-Some-least_free.id _ c.in-Some-sent.place _ _ _ its.0.delivery _ _ (counted-none c.args.now c.args.limit _ _ _ _ _ _ (c.in-Some-sent.place + 1) c.self.invariant.counted none left) its.2.1 (ap (λ (h : Held). h.entries) c.send_first-sent.ensures.left) c.in-Some-sent.ensures.queued;
      room = (marks-then _ _ _ _ _ _ (marks-within _ _ _ _ _ _ c.reserve_first.ensures.same c.resend-owed.ensures.marks refl) c.send_first-sent.ensures.marks).room c.self.invariant.room;
    }

pub returns-clause-step : goal.returns-clause-step
returns-clause-step c =
    let left : c.resend-owed.new.copies.entries ≡ after_resend c.args.now c.args.limit c.self.inside.copies.entries = ap (λ (h : Held). h.entries) c.resend-owed.ensures.left ∙ ap (after_resend c.args.now c.args.limit) c.reserve_first.ensures.same in
    let none : first_owed c.args.now c.args.limit c.self.inside.copies.entries ≡ None = rw c.reserve_first.ensures.same at c.in_default.ensures.sent in
    let quota : in_flight c.self.inside.copies.entries < c.self.inside.maximum = omega (arith, c.self.invariant.counted.flight_is) in
    rw (← c.self.view_is) (chooses-first c.args.now c.args.limit c.in-Some-least_free.id c.in-Some-sent.place _ c.resend-owed.new.copies.entries c.send_first-sent.new.copies.entries quota none left c.in-Some-least_free.ensures.0 (ap (λ (h : Held). h.entries) c.send_first-sent.ensures.left) c.in-Some-sent.ensures.sent)

pub returns-clause-touched : goal.returns-clause-touched
returns-clause-touched c =
    rw (← c.self.view_is) (watched-marked _ _ _ c.self.inside.log c.send_first-sent.new.log c.self.invariant.counted.below (marks-then _ _ _ _ _ _ (marks-within _ _ _ _ _ _ c.reserve_first.ensures.same c.resend-owed.ensures.marks refl) c.send_first-sent.ensures.marks))

pub returns-clause-sent : goal.returns-clause-sent
returns-clause-sent c =
    let left : c.resend-owed.new.copies.entries ≡ after_resend c.args.now c.args.limit c.self.inside.copies.entries = ap (λ (h : Held). h.entries) c.resend-owed.ensures.left ∙ ap (after_resend c.args.now c.args.limit) c.reserve_first.ensures.same in
    let none : first_owed c.args.now c.args.limit c.self.inside.copies.entries ≡ None = rw c.reserve_first.ensures.same at c.in_default.ensures.sent in
    let counted = counted-none c.args.now c.args.limit _ _ _ _ _ _ c.self.inside.first_waiting c.self.invariant.counted none left in
    send-can c.args.now c.args.limit c.in-Some-least_free.id c.in-Some-sent.place _ _ counted.answered c.in-Some-least_free.ensures.0 c.in-Some-sent.ensures.sent
