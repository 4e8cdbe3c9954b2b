use Rattle.std.proofs.Common.{ap, ◌∙◌, ◌<◌, arith}
use Rattle.qos_handshakes.specs.Entries.{Held, as_published, at_place}
use Rattle.qos_handshakes.proofs.Counted.{first-left, first-sent, least-left, none-first, queue-length, queued-sent, skip-waits}
use Rattle.qos_handshakes.proofs.Indexed.{held, waiting-at}
use Rattle.qos_handshakes.proofs.Marking.{credit-there, less-sent, marks-then, marks-written}
use Rattle.qos_handshakes.proofs.outgoing.send_first.Goals as goal

pub returns-then-place-next-clause-left : goal.returns-then-place-next-clause-left
returns-then-place-next-clause-left c =
    let is = ap (λ (h : Held). h.entries) c.skip-place.ensures.entries in
    held _ _ _ _ (none-first c.args.now c.args.limit c.args.id c.skip-place.result c.args.next _ _ is c.skip-place.ensures.queued (omega arith)).1 (ap (λ (h : Held). h.slots) c.skip-place.ensures.entries)

pub returns-then-place-next-clause-sent : goal.returns-then-place-next-clause-sent
returns-then-place-next-clause-sent c =
    (none-first c.args.now c.args.limit c.args.id c.skip-place.result c.args.next _ _ (ap (λ (h : Held). h.entries) c.skip-place.ensures.entries) c.skip-place.ensures.queued (omega arith)).0

pub mark-requires : goal.mark-requires
mark-requires c =
    let lt : c.skip-place.result < c.args.next = omega (arith, queue-length _ _ _ c.skip-place.ensures.queued) in
    let its = waiting-at (at_place c.skip-place.result c.skip-place.new.copies.entries) (skip-waits _ c.args.next _ c.skip-place.ensures.queued lt) in
    credit-there c.skip-place.result _ its.0 _ (c.skip-place.ensures.marks.room c.requires.room) its.1

pub publish-requires-clause-waiting : goal.publish-requires-clause-waiting
publish-requires-clause-waiting c =
    skip-waits _ c.args.next _ c.skip-place.ensures.queued (omega (arith, queue-length _ _ _ c.skip-place.ensures.queued))

pub publish-requires-clause-free : goal.publish-requires-clause-free
publish-requires-clause-free c =
    rw (ap (λ (h : Held). h.entries) c.skip-place.ensures.entries) (least-left c.args.now c.args.limit c.args.id _ c.requires.free)

pub returns-clause-left : goal.returns-clause-left
returns-clause-left c =
    let lt : c.skip-place.result < c.args.next = omega (arith, queue-length _ _ _ c.skip-place.ensures.queued) in
    let head = c.skip-place.ensures.head lt in
    held _ _ _ _ (first-left c.args.now c.args.limit c.args.id c.skip-place.result c.args.next _ _ _ (ap (λ (h : Held). h.entries) c.skip-place.ensures.entries) c.skip-place.ensures.queued lt head.0 head.1 (ap (λ (h : Held). h.entries) c.publish.ensures)) (ap (λ (h : Held). h.slots) c.publish.ensures ∙ ap (λ (h : Held). h.slots) c.skip-place.ensures.entries)

pub returns-clause-sent : goal.returns-clause-sent
returns-clause-sent c =
    let lt : c.skip-place.result < c.args.next = omega (arith, queue-length _ _ _ c.skip-place.ensures.queued) in
    let head = c.skip-place.ensures.head lt in
    first-sent c.args.now c.args.limit c.args.id c.skip-place.result c.args.next _ _ _ (ap (λ (h : Held). h.entries) c.skip-place.ensures.entries) c.skip-place.ensures.queued lt head.0 head.1 (ap (λ (h : Held). h.entries) c.publish.ensures)

pub returns-clause-queued : goal.returns-clause-queued
returns-clause-queued c =
    rw (ap (λ (h : Held). h.entries) c.publish.ensures) (queued-sent c.args.id c.skip-place.result c.args.next _ c.skip-place.ensures.queued (omega (arith, queue-length _ _ _ c.skip-place.ensures.queued)))

pub returns-clause-marks : goal.returns-clause-marks
returns-clause-marks c =
    let lt : c.skip-place.result < c.args.next = omega (arith, queue-length _ _ _ c.skip-place.ensures.queued) in
    let its = waiting-at (at_place c.skip-place.result c.skip-place.new.copies.entries) (skip-waits _ c.args.next _ c.skip-place.ensures.queued lt) in
    marks-then _ _ _ _ _ _ c.skip-place.ensures.marks (marks-written (as_published c.args.id) _ _ _ _ c.skip-place.result its.0 its.1 (omega (arith, less-sent c.args.id its.0.stage its.2)) (ap (λ (h : Held). h.entries) c.publish.ensures) c.mark.ensures.places c.mark.ensures.room)
