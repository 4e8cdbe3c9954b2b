use Rattle.std.proofs.Common.{◌≡◌, ◌<◌, length, get_or, arith, sym, ◌∙◌}
use Rattle.std.proofs.lemmas.Bool.Decides.{nat_tests}
use Rattle.home_table.proofs.AutomaticLaws.{digits-list_all}
use Rattle.home_table.proofs.automatic.is_whole_number.Goals as goal
use Rattle.home_table.proofs.automatic.is_whole_number.Goals.{else-bytes-gt1-via-then-bytes-gt1+else-bytes-eq-ZERO, else-bytes-gt1-via-else-bytes-gt1}

pub returns : goal.returns
returns c =
    let same = c.as_bytes-bytes.ensures.value in
    let some : 0 < length c.args.text.now = rw (← same) (grind (arith, nat_tests)) in
    let zeros : get_or c.args.text.now 0 0 ≡ 48 → length c.args.text.now ≡ 1 = λ zero. elim c.else-bytes-gt1.branch [
      | else-bytes-gt1-via-then-bytes-gt1+else-bytes-eq-ZERO w ↦ absurd (w.if-bytes-eq-ZERO.false (rw same zero))
      | else-bytes-gt1-via-else-bytes-gt1 w ↦ rw (← same) (grind (arith, nat_tests))
    ] in
    let digits = c.has_digits.ensures ∙ digits-list_all c.as_bytes-bytes.result.now in
    (λ h. record { some = some; digits = rw (← same) (sym digits ∙ h); plain = zeros }, λ whole. digits ∙ rw (← same) at whole.digits)
