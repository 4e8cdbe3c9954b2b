use Rattle.std.proofs.Common.{◌≡◌, true, false, not, inr, refl, arith}
use Rattle.std.specs.Prelude.{◌==◌}
use Rattle.std.specs.List.{list_all}
use Rattle.mqtt_fields.proofs.TextLaws.{is_text_from, some_zero}
use Rattle.mqtt_fields.proofs.text.Text.new.Goals as goal

pub invariant_of-result : goal.invariant_of-result
invariant_of-result c =
    let z : list_all (λ b. not (b == 0)) c.args.s.now ≡ true = cc in
    let t = is_text_from c.args.s.now c.utf8.s z in
    let e = c.in_ok-string.ensures.ok in
    rw e (omega arith, t)

pub returns-clause-fits : goal.returns-clause-fits
returns-clause-fits c =
    let z : list_all (λ b. not (b == 0)) c.args.s.now ≡ true = cc in
    (omega arith, is_text_from c.args.s.now c.utf8.s z)

pub returns-then-not-has_no_zero-clause-malformed : goal.returns-then-not-has_no_zero-clause-malformed
returns-then-not-has_no_zero-clause-malformed c =
    let z : list_all (λ b. not (b == 0)) c.args.s.now ≡ false = cc in
    (λ _. inr (some_zero c.args.s.now z), λ _. refl)
