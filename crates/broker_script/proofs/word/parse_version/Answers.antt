use Rattle.std.proofs.Common.{sym, ◌∙◌, arith}
use Rattle.std.proofs.lemmas.Fmt.{decimal_injective}
use Rattle.broker_script.proofs.word.parse_version.Goals as goal

pub returns-then-number-gt4294967295-clause-none : goal.returns-then-number-gt4294967295-clause-none
returns-then-number-gt4294967295-clause-none c = λ n small is.
    let found = c.in_ok-number.ensures.some in
    let same = decimal_injective n c.in_ok-number.number (omega arith) found.0 (sym is ∙ found.1) in
    omega arith
