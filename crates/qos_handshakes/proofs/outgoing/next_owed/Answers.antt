use Rattle.std.proofs.Common.{ap, sym, ◌∙◌, arith}
use Rattle.qos_handshakes.specs.Entries.{Held}
use Rattle.qos_handshakes.proofs.Indexed.{held}
use Rattle.qos_handshakes.proofs.Owed.{ends-none, ends-past, none-there, place-le, within-found, within-past, within-removed, within-end, nothing-large, found-fits, found-large, fits-limit, passes-limit}
use Rattle.qos_handshakes.proofs.Marking.{marks-then, marks-removed, credit-there}
use Rattle.qos_handshakes.proofs.outgoing.next_owed.Goals as goal

pub returns-in_default-clause-entries : goal.returns-in_default-clause-entries
returns-in_default-clause-entries c =
    held _ _ _ _ (sym (ends-none c.loop-place.place c.args.until c.args.now c.args.limit _ c.loop-place.invariant.within (sym c.in_default.ensures)).0 ∙ c.loop-place.invariant.same) c.loop-place.invariant.room

pub returns-in_default-clause-owed : goal.returns-in_default-clause-owed
returns-in_default-clause-owed c = (ends-none c.loop-place.place c.args.until c.args.now c.args.limit _ c.loop-place.invariant.within (sym c.in_default.ensures)).1

pub returns-then-found-until-clause-entries : goal.returns-then-found-until-clause-entries
returns-then-found-until-clause-entries c =
    held _ _ _ _ (sym (ends-past c.loop-place.place c.in-Some.found c.args.until c.args.now c.args.limit _ c.are_ordered.ensures c.loop-place.invariant.within (sym c.in-Some.ensures) c.if-found-until.true).0 ∙ c.loop-place.invariant.same) c.loop-place.invariant.room

pub returns-then-found-until-clause-owed : goal.returns-then-found-until-clause-owed
returns-then-found-until-clause-owed c = (ends-past c.loop-place.place c.in-Some.found c.args.until c.args.now c.args.limit _ c.are_ordered.ensures c.loop-place.invariant.within (sym c.in-Some.ensures) c.if-found-until.true).1

pub returns-in_default-at-clause-entries : goal.returns-in_default-at-clause-entries
returns-in_default-at-clause-entries c = absurd (none-there c.loop-place.place c.in-Some.found _ (sym c.in-Some.ensures) (sym c.in_default-at.ensures))

pub returns-in_default-at-clause-owed : goal.returns-in_default-at-clause-owed
returns-in_default-at-clause-owed c = absurd (none-there c.loop-place.place c.in-Some.found _ (sym c.in-Some.ensures) (sym c.in_default-at.ensures))

pub loop-place-smaller-then-not-is_owed_of : goal.loop-place-smaller-then-not-is_owed_of
loop-place-smaller-then-not-is_owed_of c = omega (arith, place-le c.loop-place.place c.in-Some.found c.loop-place.copies.entries (sym c.in-Some.ensures), c.loop-place-test.true, c.if-found-until.false)

pub loop-place-preserved-then-not-is_owed_of : goal.loop-place-preserved-then-not-is_owed_of
loop-place-preserved-then-not-is_owed_of c = record {
  same = c.loop-place.invariant.same;
  within = within-past c.in-Some.found c.args.until c.in-Some-at.entry.now _ c.are_ordered.ensures (within-found c.loop-place.place c.in-Some.found c.args.until _ c.are_ordered.ensures c.loop-place.invariant.within (sym c.in-Some.ensures)) (sym c.in-Some-at.ensures) (sym c.if-not-is_owed_of.ensures);
  room = c.loop-place.invariant.room;
  marks = c.loop-place.invariant.marks;
}

pub returns-then-length_of-limit-clause-entries : goal.returns-then-length_of-limit-clause-entries
returns-then-length_of-limit-clause-entries c =
    let t = found-fits c.args.now c.args.limit c.in-Some.found c.args.until c.in-Some-at.entry.now _ c.are_ordered.ensures (within-found c.loop-place.place c.in-Some.found c.args.until _ c.are_ordered.ensures c.loop-place.invariant.within (sym c.in-Some.ensures)) (sym c.in-Some-at.ensures) (sym c.if-not-is_owed_of.ensures) (fits-limit c.args.now c.args.limit c.length_of.result c.in-Some-at.entry.now c.length_of.ensures c.if-length_of-limit.true) in
    held _ _ _ _ (sym t.1 ∙ c.loop-place.invariant.same) c.loop-place.invariant.room

pub returns-then-length_of-limit-clause-owed : goal.returns-then-length_of-limit-clause-owed
returns-then-length_of-limit-clause-owed c = within-found c.loop-place.place c.in-Some.found c.args.until _ c.are_ordered.ensures c.loop-place.invariant.within (sym c.in-Some.ensures)

pub returns-then-length_of-limit-clause-found : goal.returns-then-length_of-limit-clause-found
returns-then-length_of-limit-clause-found c = λ _.
    (found-fits c.args.now c.args.limit c.in-Some.found c.args.until c.in-Some-at.entry.now _ c.are_ordered.ensures (within-found c.loop-place.place c.in-Some.found c.args.until _ c.are_ordered.ensures c.loop-place.invariant.within (sym c.in-Some.ensures)) (sym c.in-Some-at.ensures) (sym c.if-not-is_owed_of.ensures) (fits-limit c.args.now c.args.limit c.length_of.result c.in-Some-at.entry.now c.length_of.ensures c.if-length_of-limit.true)).0

pub loop-place-smaller : goal.loop-place-smaller
loop-place-smaller c = omega (arith, place-le c.loop-place.place c.in-Some.found c.loop-place.copies.entries (sym c.in-Some.ensures), c.loop-place-test.true, c.if-found-until.false)

pub loop-place-preserved : goal.loop-place-preserved
loop-place-preserved c =
    let within = within-found c.loop-place.place c.in-Some.found c.args.until _ c.are_ordered.ensures c.loop-place.invariant.within (sym c.in-Some.ensures) in
    let is = ap (λ (h : Held). h.entries) c.end_at.ensures in
    record {
      same = rw is (found-large c.args.now c.args.limit c.in-Some.found c.args.until c.in-Some-at.entry.now _ c.are_ordered.ensures within (sym c.in-Some-at.ensures) (sym c.if-not-is_owed_of.ensures) (passes-limit c.args.now c.args.limit c.length_of.result c.in-Some-at.entry.now c.length_of.ensures c.if-length_of-limit.false) ∙ c.loop-place.invariant.same);
      within = rw is (within-removed c.in-Some.found c.args.until _ c.are_ordered.ensures within);
      room = ap (λ (h : Held). h.slots) c.end_at.ensures ∙ c.loop-place.invariant.room;
      marks = marks-then _ _ _ _ _ _ c.loop-place.invariant.marks (marks-removed _ _ _ _ c.in-Some.found c.in-Some-at.entry.now c.are_ordered.ensures (sym c.in-Some-at.ensures) is c.mark.ensures.places c.mark.ensures.room);
    }

pub mark-requires : goal.mark-requires
mark-requires c = credit-there c.in-Some.found _ c.in-Some-at.entry.now _ (c.loop-place.invariant.marks.room c.requires.room) (sym c.in-Some-at.ensures)

pub returns-clause-entries : goal.returns-clause-entries
returns-clause-entries c =
    held _ _ _ _ (sym (nothing-large c.args.now c.args.limit _ (within-end c.loop-place.place c.args.until _ c.loop-place.invariant.within c.loop-place-test.false)) ∙ c.loop-place.invariant.same) c.loop-place.invariant.room
