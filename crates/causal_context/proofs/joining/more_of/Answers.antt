use Rattle.std.proofs.Common.{refl}
use Rattle.causal_context.proofs.RangeSets.{set_of_union}
use Rattle.causal_context.proofs.joining.more_of.Goals as goal

pub returns-clause-after : goal.returns-clause-after
returns-clause-after c =
    rw c.if-in_place.false (set_of_union c.args.ranges.now.items c.args.others.now c.in_ok-more-2.more.items _ _ (rw c.deref.ensures.value at c.in_ok-more-2.ensures.union) refl refl)
