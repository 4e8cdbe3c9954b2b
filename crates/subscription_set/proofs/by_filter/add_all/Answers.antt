use Rattle.std.proofs.Common.{ap, ◌∙◌}
use Rattle.std.specs.FinSet as set
use Rattle.causal_context.specs.Dots.{dot_cmp}
use Rattle.subscription_set.proofs.Matched.{added_more, added_all}
use Rattle.subscription_set.proofs.by_filter.add_all.Goals as goal

pub loop-dot-preserved : goal.loop-dot-preserved
loop-dot-preserved c = added_more c.args.out.now c.loop-dot.out c.insert.new.self c.into_iter-dot-iterator.result c.loop-dot.dot-iterator c.next.new.self c.in-Some.dot.now c.in-Some.ensures.steps c.in_ok-insert.ensures.ok c.loop-dot.invariant

pub returns : goal.returns
returns c = λ q.
    added_all c.args.out.now c.loop-dot.out c.args.dots.now c.into_iter-dot-iterator.result c.loop-dot.dot-iterator c.in-None.ensures.steps.0
    (ap (λ ks. set.from_list {R = dot_cmp} ks) c.into_iter-dot-iterator.ensures.into_iter_gives ∙ c.iter-dot-items.ensures.same) c.loop-dot.invariant q
