use Rattle.std.proofs.Common.{arith}
use Rattle.std.proofs.lemmas.Result.{err_from_is_err_and}
use Rattle.causal_context.proofs.SpellingLaws.{all_written, length-ranges_bytes}
use Rattle.causal_context.proofs.bytes.write_ranges.Goals as goal

pub returns-clause-ok : goal.returns-clause-ok
returns-clause-ok c = all_written c.args.out.now.items c.loop-range.out.items c.args.ranges.now c.loop-range.range-index (omega arith) c.loop-range.invariant.written

pub returns-in_err-reserve-clause-full : goal.returns-in_err-reserve-clause-full
returns-in_err-reserve-clause-full c = let p = err_from_is_err_and c.from_residual.result c.from_residual.ensures.1 in
    rw p.1 (omega (arith, c.in_err-reserve.ensures.full, length-ranges_bytes c.args.ranges.now))
