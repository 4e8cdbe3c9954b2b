use Rattle.std.proofs.Common.{arith, sym, ◌∙◌}
use Rattle.std.specs.Cmp.Lexicographic.{nat_list_cmp_total}
use Rattle.subscription_set.proofs.Rising.{rises_one, rises_more, not_rising}
use Rattle.replica_bytes.proofs.retained.are_rising.Goals as goal

pub loop-i-init : goal.loop-i-init
loop-i-init c = rises_one nat_list_cmp_total c.args.entries.now

pub loop-i-preserved : goal.loop-i-preserved
loop-i-preserved c = rises_more nat_list_cmp_total c.args.entries.now c.loop-i.i c.index-entries-i.result c.index-entries-i-in-loop-i.result c.loop-i.auto.i (let t = c.loop-i-test.true in omega arith) c.index-entries-i.is c.index-entries-i-in-loop-i.is (sym c.is_before.ensures ∙ c.if-not-is_before.false) c.loop-i.invariant

pub returns-then-not-is_before : goal.returns-then-not-is_before
returns-then-not-is_before c = (
  λ e. cc,
  λ h. absurd (not_rising nat_list_cmp_total c.args.entries.now c.loop-i.i c.index-entries-i.result c.index-entries-i-in-loop-i.result c.loop-i.auto.i (let t = c.loop-i-test.true in omega arith) c.index-entries-i.is c.index-entries-i-in-loop-i.is (sym c.is_before.ensures ∙ c.if-not-is_before.true) h),
)
