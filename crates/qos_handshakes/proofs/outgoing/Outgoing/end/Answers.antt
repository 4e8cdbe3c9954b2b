use Rattle.std.proofs.Common.{◌-◌, ap, ◌∙◌, refl, arith}
use Rattle.qos_handshakes.specs.Entries.{Held}
use Rattle.qos_handshakes.proofs.Counted.{counted-dropped, in_flight-dropped, sent-here}
use Rattle.qos_handshakes.proofs.Marking.{marks-removed, credit-there, watched-marked}
use Rattle.qos_handshakes.proofs.outgoing.Outgoing.end.Goals as goal

pub place_of-requires : goal.place_of-requires
place_of-requires c = let its = sent-here _ _ (rw (← c.self.view_is) at c.requires) in rw its.1 refl

pub mark-requires : goal.mark-requires
mark-requires c =
    let its = sent-here _ _ (rw (← c.self.view_is) at c.requires) in
    credit-there c.place_of.result _ its.0 _ c.self.invariant.room (c.place_of.ensures.at ∙ its.1)

pub overflow_sub-self : goal.overflow_sub-self
overflow_sub-self c =
    let its = sent-here _ _ (rw (← c.self.view_is) at c.requires) in
    let e = in_flight-dropped c.args.id its.0 c.self.inside.copies.entries its.1 in
    let f = rw (its.2 ∙ c.if-here.true) at e in omega (arith, f, c.self.invariant.counted.flight_is)

pub invariant_of-self : goal.invariant_of-self
invariant_of-self c =
    let its = sent-here _ _ (rw (← c.self.view_is) at c.requires) in
    let e = in_flight-dropped c.args.id its.0 c.self.inside.copies.entries its.1 in
    let f = rw (its.2 ∙ c.if-here.true) at e in
    let is = ap (λ (h : Held). h.entries) c.remove.ensures in
    record {
      counted = rw is (counted-dropped _ _ _ (c.self.inside.in_flight - 1) _ _ c.args.id its.0 c.self.invariant.counted its.1 (rw (its.2 ∙ c.if-here.true) (omega (arith, f, c.self.invariant.counted.flight_is))));
      room = (marks-removed _ _ _ _ c.place_of.result its.0 c.are_ordered.ensures (c.place_of.ensures.at ∙ its.1) (is ∙ c.place_of.ensures.dropped) c.mark.ensures.places c.mark.ensures.room).room c.self.invariant.room;
    }

pub invariant_of-self-else-here : goal.invariant_of-self-else-here
invariant_of-self-else-here c =
    let its = sent-here _ _ (rw (← c.self.view_is) at c.requires) in
    let is = ap (λ (h : Held). h.entries) c.remove.ensures in
    record {
      counted = rw is (counted-dropped _ _ _ c.self.inside.in_flight _ _ c.args.id its.0 c.self.invariant.counted its.1 (rw (its.2 ∙ c.if-here.false) (omega arith)));
      room = (marks-removed _ _ _ _ c.place_of.result its.0 c.are_ordered.ensures (c.place_of.ensures.at ∙ its.1) (is ∙ c.place_of.ensures.dropped) c.mark.ensures.places c.mark.ensures.room).room c.self.invariant.room;
    }

pub returns-then-here-clause-touched : goal.returns-then-here-clause-touched
returns-then-here-clause-touched c =
    let its = sent-here _ _ (rw (← c.self.view_is) at c.requires) in
    rw (← c.self.view_is) (watched-marked _ _ _ c.self.inside.log c.mark.new.self c.self.invariant.counted.below (marks-removed _ _ _ _ c.place_of.result its.0 c.are_ordered.ensures (c.place_of.ensures.at ∙ its.1) (ap (λ (h : Held). h.entries) c.remove.ensures ∙ c.place_of.ensures.dropped) c.mark.ensures.places c.mark.ensures.room))

pub returns-else-here-clause-touched : goal.returns-else-here-clause-touched
returns-else-here-clause-touched c =
    let its = sent-here _ _ (rw (← c.self.view_is) at c.requires) in
    rw (← c.self.view_is) (watched-marked _ _ _ c.self.inside.log c.mark.new.self c.self.invariant.counted.below (marks-removed _ _ _ _ c.place_of.result its.0 c.are_ordered.ensures (c.place_of.ensures.at ∙ its.1) (ap (λ (h : Held). h.entries) c.remove.ensures ∙ c.place_of.ensures.dropped) c.mark.ensures.places c.mark.ensures.room))
