use Rattle.std.proofs.Common.{sym, ◌∙◌}
use Rattle.subscription_set.proofs.Order.{seen_more, not_seen}
use Rattle.subscription_set.proofs.set.are_seen.Goals as goal

pub loop-dot-preserved : goal.loop-dot-preserved
loop-dot-preserved c = seen_more c.args.seen.now c.args.entries.now c.loop-dot.dot-index c.loop-dot-item.result c.loop-dot-test.true c.loop-dot-item.is (sym c.contains.ensures ∙ c.if-not-contains.false) c.loop-dot.invariant

pub returns-then-not-contains : goal.returns-then-not-contains
returns-then-not-contains c = (
  λ e. cc,
  λ h. absurd (not_seen c.args.seen.now c.args.entries.now c.loop-dot.dot-index c.loop-dot-item.result c.loop-dot-test.true c.loop-dot-item.is c.requires (sym c.contains.ensures ∙ c.if-not-contains.true) h),
)
