use Rattle.std.proofs.Common.{◌≡◌, ◌≢◌, length, get_or, subst, sym, ◌∙◌, arith}
use Rattle.std.proofs.lemmas.Bool.Decides.{nat_tests}
use Rattle.broker_script.proofs.Words.{decimal_first, number_read, HasFirst}
use Rattle.broker_script.proofs.word.parse_number.Goals as goal
use Rattle.broker_script.proofs.word.parse_number.Goals.{then-is_empty-via-then-is_empty, then-is_empty-via-else-is_empty+then-bytes-eq-PLUS, else-bytes-gt1-via-then-bytes-gt1+else-bytes-eq-ZERO, else-bytes-gt1-via-else-bytes-gt1}

pub returns-then-is_empty-clause-none : goal.returns-then-is_empty-clause-none
returns-then-is_empty-clause-none c = λ n small is.
    let f = subst HasFirst (sym is ∙ sym c.as_bytes-bytes.ensures.value) (decimal_first n small) in
    elim c.then-is_empty.branch [
      | then-is_empty-via-then-is_empty w ↦ grind (arith, nat_tests)
      | then-is_empty-via-else-is_empty+then-bytes-eq-PLUS w ↦ omega (arith, w.if-bytes-eq-PLUS.true)
    ]

pub returns-then-bytes-eq-ZERO-clause-none : goal.returns-then-bytes-eq-ZERO-clause-none
returns-then-bytes-eq-ZERO-clause-none c = λ n small is.
    let f = subst HasFirst (sym is ∙ sym c.as_bytes-bytes.ensures.value) (decimal_first n small) in
    let one = f.lone c.if-bytes-eq-ZERO.true in
    omega (arith, one)

pub returns-in-Ok-clause-some : goal.returns-in-Ok-clause-some
returns-in-Ok-clause-some c =
    let same = c.as_bytes-bytes.ensures.value in
    let plus : get_or c.args.word.now 0 0 ≢ 43 = rw same at c.if-bytes-eq-PLUS.false in
    let zeros : get_or c.args.word.now 0 0 ≡ 48 → length c.args.word.now ≡ 1 = λ zero. elim c.else-bytes-gt1.branch [
      | else-bytes-gt1-via-then-bytes-gt1+else-bytes-eq-ZERO w ↦ absurd (w.if-bytes-eq-ZERO.false (rw same zero))
      | else-bytes-gt1-via-else-bytes-gt1 w ↦ rw (← same) (grind (arith, nat_tests))
    ] in
    rw c.in-Ok.is at (number_read c.args.word.now c.parse.result c.parse.ensures.value.0 plus zeros)

pub returns-in-Err-clause-none : goal.returns-in-Err-clause-none
returns-in-Err-clause-none c =
    let same = c.as_bytes-bytes.ensures.value in
    let plus : get_or c.args.word.now 0 0 ≢ 43 = rw same at c.if-bytes-eq-PLUS.false in
    let zeros : get_or c.args.word.now 0 0 ≡ 48 → length c.args.word.now ≡ 1 = λ zero. elim c.else-bytes-gt1.branch [
      | else-bytes-gt1-via-then-bytes-gt1+else-bytes-eq-ZERO w ↦ absurd (w.if-bytes-eq-ZERO.false (rw same zero))
      | else-bytes-gt1-via-else-bytes-gt1 w ↦ rw (← same) (grind (arith, nat_tests))
    ] in
    rw c.in-Err.is at (number_read c.args.word.now c.parse.result c.parse.ensures.value.0 plus zeros)
