use Rattle.std.proofs.Common.{◌≡◌, ◌+◌, arith, subst}
use Rattle.row_journal.specs.Spelling.{common_end}
use Rattle.row_journal.proofs.EndLaws.{end_found, end_more, end_new, end_whole, left_in}
use Rattle.row_journal.proofs.ends.common_end.Goals as goal

pub loop-n-init : goal.loop-n-init
loop-n-init c = end_new c.args.xs.now c.args.ys.now

pub returns-then-xs-n-clause-is : goal.returns-then-xs-n-clause-is
returns-then-xs-n-clause-is c = end_found c.loop-n.n c.args.xs.now c.args.ys.now (omega (arith, c.loop-n-test.true, c.min-most.ensures)) (omega (arith, c.loop-n-test.true, c.min-most.ensures)) c.if-xs-n.true c.loop-n.invariant

pub loop-n-preserved : goal.loop-n-preserved
loop-n-preserved c = end_more c.loop-n.n c.args.xs.now c.args.ys.now (omega (arith, c.loop-n-test.true, c.min-most.ensures)) (omega (arith, c.loop-n-test.true, c.min-most.ensures)) c.if-xs-n.false c.loop-n.invariant

pub returns-clause-is : goal.returns-clause-is
returns-clause-is c = end_whole c.min-most.result c.args.xs.now c.args.ys.now c.min-most.ensures (subst (λ n. common_end c.args.xs.now c.args.ys.now ≡ n + left_in n c.args.xs.now c.args.ys.now) (omega (arith, c.loop-n-test.false, c.loop-n.auto.n-end)) c.loop-n.invariant)
