use Rattle.std.proofs.Common.{ap, sym, ◌∙◌}
use Rattle.qos_handshakes.specs.Entries.{Held}
use Rattle.qos_handshakes.proofs.Indexed.{held}
use Rattle.qos_handshakes.proofs.Counted.{skip-waits, skip-sent, skip-left, skip-end, skip-none}
use Rattle.qos_handshakes.proofs.Marking.{marks-then, marks-removed, credit-there}
use Rattle.qos_handshakes.proofs.outgoing.skip.Goals as goal

pub returns-then-is_sendable_of-clause-entries : goal.returns-then-is_sendable_of-clause-entries
returns-then-is_sendable_of-clause-entries c =
    let t = skip-sent c.args.now c.args.limit _ c.args.next c.in-Some.entry.now _ c.loop-place.invariant.queued c.loop-place-test.true (sym c.in-Some.ensures) (sym c.if-is_sendable_of.ensures) in
    held _ _ _ _ (sym t.0 ∙ c.loop-place.invariant.same) c.loop-place.invariant.room

pub returns-then-is_sendable_of-clause-head : goal.returns-then-is_sendable_of-clause-head
returns-then-is_sendable_of-clause-head c = λ _.
    let t = skip-sent c.args.now c.args.limit _ c.args.next c.in-Some.entry.now _ c.loop-place.invariant.queued c.loop-place-test.true (sym c.in-Some.ensures) (sym c.if-is_sendable_of.ensures) in
    (t.1, t.0)

pub returns-in-None-clause-entries : goal.returns-in-None-clause-entries
returns-in-None-clause-entries c = absurd (skip-none _ c.args.next _ c.loop-place.invariant.queued c.loop-place-test.true (sym c.in-None.ensures))

pub returns-in-None-clause-head : goal.returns-in-None-clause-head
returns-in-None-clause-head c = absurd (skip-none _ c.args.next _ c.loop-place.invariant.queued c.loop-place-test.true (sym c.in-None.ensures))

pub leave_out-requires : goal.leave_out-requires
leave_out-requires c = skip-waits _ c.args.next _ c.loop-place.invariant.queued c.loop-place-test.true

pub loop-place-preserved : goal.loop-place-preserved
loop-place-preserved c =
    let t = skip-left c.args.now c.args.limit _ c.args.next c.in-Some.entry.now _ c.loop-place.invariant.queued c.loop-place-test.true (sym c.in-Some.ensures) (sym c.if-is_sendable_of.ensures) in
    record {
      same = rw (ap (λ (h : Held). h.entries) c.leave_out.ensures) (t.0 ∙ c.loop-place.invariant.same);
      queued = rw (ap (λ (h : Held). h.entries) c.leave_out.ensures) t.1;
      room = ap (λ (h : Held). h.slots) c.leave_out.ensures ∙ c.loop-place.invariant.room;
      marks = marks-then _ _ _ _ _ _ c.loop-place.invariant.marks (marks-removed _ _ _ _ c.loop-place.place c.in-Some.entry.now c.are_ordered.ensures (sym c.in-Some.ensures) (ap (λ (h : Held). h.entries) c.leave_out.ensures) c.mark.ensures.places c.mark.ensures.room);
    }

pub mark-requires : goal.mark-requires
mark-requires c = credit-there c.loop-place.place _ c.in-Some.entry.now _ (c.loop-place.invariant.marks.room c.requires.room) (sym c.in-Some.ensures)

pub returns-clause-entries : goal.returns-clause-entries
returns-clause-entries c =
    let t = skip-end c.args.now c.args.limit 0 _ c.args.next _ c.loop-place.invariant.queued c.loop-place-test.false in
    held _ _ _ _ (sym t.0 ∙ c.loop-place.invariant.same) c.loop-place.invariant.room
