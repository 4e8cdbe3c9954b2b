use Rattle.std.proofs.Common.{ap, sym, ◌∙◌, arith}
use Rattle.qos_handshakes.specs.Entries.{Held, as_released}
use Rattle.qos_handshakes.proofs.Counted.{counted-released}
use Rattle.qos_handshakes.proofs.Marking.{marks-written, less-released, credit-there, watched-marked}
use Rattle.qos_handshakes.proofs.outgoing.Outgoing.received.Goals as goal

pub mark-requires : goal.mark-requires
mark-requires c = credit-there c.place_of.result _ c.in-Some.entry.now _ c.self.invariant.room (c.place_of.ensures.at ∙ sym c.in-Some.ensures)

pub invariant_of-self : goal.invariant_of-self
invariant_of-self c =
    let is = ap (λ (h : Held). h.entries) c.release.ensures in
    record {
      counted = rw is (counted-released _ _ _ _ _ c.args.id c.self.inside.next_order (omega arith) c.self.invariant.counted);
      room =
          (marks-written (as_released c.args.id c.self.inside.next_order) _ _ _ _ c.place_of.result c.in-Some.entry.now (c.place_of.ensures.at ∙ sym c.in-Some.ensures)
          (omega (arith, less-released c.in-Some.entry.now.delivery.qos c.in-Some.entry.now.stage (sym c.if-not-takes_pubrec_of.ensures))) (is ∙ c.place_of.ensures.written (as_released c.args.id c.self.inside.next_order)) c.mark.ensures.places c.mark.ensures.room).room c.self.invariant.room;
    }

pub returns-clause-touched : goal.returns-clause-touched
returns-clause-touched c =
    rw (← c.self.view_is)
    (watched-marked _ _ _ c.self.inside.log c.mark.new.self c.self.invariant.counted.below (marks-written (as_released c.args.id c.self.inside.next_order) _ _ _ _ c.place_of.result c.in-Some.entry.now (c.place_of.ensures.at ∙ sym c.in-Some.ensures)
    (omega (arith, less-released c.in-Some.entry.now.delivery.qos c.in-Some.entry.now.stage (sym c.if-not-takes_pubrec_of.ensures))) (ap (λ (h : Held). h.entries) c.release.ensures ∙ c.place_of.ensures.written (as_released c.args.id c.self.inside.next_order)) c.mark.ensures.places c.mark.ensures.room))
