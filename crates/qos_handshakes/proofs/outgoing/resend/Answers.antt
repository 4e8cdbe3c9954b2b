use Rattle.std.proofs.Common.{ap, ◌∙◌}
use Rattle.qos_handshakes.specs.Entries.{Held}
use Rattle.qos_handshakes.proofs.Advanced.{again-left, again-owed, again-sent, none-left}
use Rattle.qos_handshakes.proofs.Indexed.{held}
use Rattle.qos_handshakes.proofs.Marking.{marks-here, marks-then}
use Rattle.qos_handshakes.proofs.Owed.{within-end}
use Rattle.qos_handshakes.proofs.outgoing.resend.Goals as goal

pub returns-then-place-until-clause-left : goal.returns-then-place-until-clause-left
returns-then-place-until-clause-left c =
    let is = ap (λ (h : Held). h.entries) c.next_owed-place.ensures.entries in
    let none = within-end c.next_owed-place.result c.args.until _ c.next_owed-place.ensures.owed c.if-place-until.true in
    held _ _ _ _ (none-left c.args.now c.args.limit _ _ is none).1 (ap (λ (h : Held). h.slots) c.next_owed-place.ensures.entries)

pub returns-then-place-until-clause-sent : goal.returns-then-place-until-clause-sent
returns-then-place-until-clause-sent c =
    let is = ap (λ (h : Held). h.entries) c.next_owed-place.ensures.entries in
    let none = within-end c.next_owed-place.result c.args.until _ c.next_owed-place.ensures.owed c.if-place-until.true in
    (none-left c.args.now c.args.limit _ _ is none).0

pub returns-clause-left : goal.returns-clause-left
returns-clause-left c =
    let is = ap (λ (h : Held). h.entries) c.next_owed-place.ensures.entries in
    let again = ap (λ (h : Held). h.entries) c.send_again.ensures in
    held _ _ _ _ (again-left c.args.now c.args.limit c.next_owed-place.result _ _ _ is (c.next_owed-place.ensures.found c.if-place-until.false) again) (ap (λ (h : Held). h.slots) c.send_again.ensures ∙ ap (λ (h : Held). h.slots) c.next_owed-place.ensures.entries)

pub returns-clause-sent : goal.returns-clause-sent
returns-clause-sent c =
    let is = ap (λ (h : Held). h.entries) c.next_owed-place.ensures.entries in
    again-sent c.args.now c.args.limit c.next_owed-place.result _ _ _ is (c.next_owed-place.ensures.found c.if-place-until.false) (ap (λ (h : Held). h.entries) c.send_again.ensures)

pub returns-clause-owed : goal.returns-clause-owed
returns-clause-owed c = again-owed c.next_owed-place.result c.args.until _ _ c.next_owed-place.ensures.owed (ap (λ (h : Held). h.entries) c.send_again.ensures)

pub returns-clause-marks : goal.returns-clause-marks
returns-clause-marks c = marks-then _ _ _ _ _ _ c.next_owed-place.ensures.marks (marks-here _ _ _ _ (ap (λ (h : Held). h.entries) c.send_again.ensures))
