use Rattle.std.proofs.Common.{subst, sym, arith, IsTrue, false}
use Rattle.home_table.specs.Homes.{IsWholeNumber}
use Rattle.home_table.proofs.AutomaticLaws.{number_read, decimal_is_whole}
use Rattle.home_table.proofs.automatic.node_number.Goals as goal

pub returns-then-not-is_whole_number-clause-none : goal.returns-then-not-is_whole_number-clause-none
returns-then-not-is_whole_number-clause-none c = λ n small is.
    let h : IsTrue false = c.if-not-is_whole_number.ensures.1 (subst IsWholeNumber (sym is) (decimal_is_whole n (omega arith))) in cc

pub returns-in-Ok-clause-some : goal.returns-in-Ok-clause-some
returns-in-Ok-clause-some c = rw c.in-Ok.is at (number_read c.args.text.now c.parse.result c.parse.ensures.value.0 (c.is_whole_number.ensures.0 c.if-not-is_whole_number.false))

pub returns-in-Err-clause-none : goal.returns-in-Err-clause-none
returns-in-Err-clause-none c = rw c.in-Err.is at (number_read c.args.text.now c.parse.result c.parse.ensures.value.0 (c.is_whole_number.ensures.0 c.if-not-is_whole_number.false))
