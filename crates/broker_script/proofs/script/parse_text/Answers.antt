use Rattle.std.proofs.Common.{sym, ◌∙◌, ap, arith, map, length, inr, refl}
use Rattle.std.proofs.lemmas.List.{length-map}
use Rattle.std.proofs.lemmas.Bool.Decides.{nat_tests}
use Rattle.broker_script.proofs.Scripts.{nowhere, line_at, begins_next, skipped_stops}
use Rattle.broker_script.proofs.script.parse_text.Goals as goal

pub loop-i-preserved : goal.loop-i-preserved
loop-i-preserved c =
    let text = c.args.text.now in
    let shown = ap (map (λ w. w.now)) c.deref-line-items.ensures.value ∙ c.in_ok-lines.ensures in
    let at = line_at text c.deref-line-items.result.now nowhere c.loop-i.i (omega arith) shown in
    let long = sym (length-map c.deref-line-items.result.now (λ w. w.now)) ∙ ap length shown in
    begins_next text _ c.loop-i.i c.loop-i.commands.items _ (omega (arith, long)) at c.loop-i.invariant (c.in_ok-read_line.ensures.read c.if-not-branch.false)

pub returns-then-is_empty-clause-fault : goal.returns-then-is_empty-clause-fault
returns-then-is_empty-clause-fault c =
    let shown = ap (map (λ w. w.now)) c.deref-line-items.ensures.value ∙ c.in_ok-lines.ensures in
    let long = sym (length-map c.deref-line-items.result.now (λ w. w.now)) ∙ ap length shown in
    inr (1, refl, skipped_stops c.args.text.now c.loop-i.i c.loop-i.commands.items c.loop-i.invariant (omega (arith, long)) (grind (arith, nat_tests)))
