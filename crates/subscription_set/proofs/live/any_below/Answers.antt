use Rattle.std.proofs.Common.{sym, ap, ◌∙◌}
use Rattle.std.specs.FinMap as map
use Rattle.std.specs.FinSet as set
use Rattle.causal_context.specs.Dots.{dot_cmp}
use Rattle.subscription_set.specs.Indexing.{below_at}
use Rattle.subscription_set.proofs.Picking.{any_found, any_ended}
use Rattle.subscription_set.proofs.live.any_below.Goals as goal

pub returns-then-is_below_at : goal.returns-then-is_below_at
returns-then-is_below_at c = any_found (λ d. below_at c.args.version (map.get c.args.entries.now d)) c.loop-dot.dot-iterator c.into_iter-dot-iterator.result c.args.dots.now (ap (λ ks. set.from_list {R = dot_cmp} ks) c.into_iter-dot-iterator.ensures.into_iter_gives ∙ c.iter-dot-items.ensures.same) c.loop-dot.invariant c.in-Some.dot.now c.next.new.self c.in-Some.ensures.steps (sym c.is_below_at.ensures ∙ c.if-is_below_at.true)

pub returns : goal.returns
returns c = any_ended (λ d. below_at c.args.version (map.get c.args.entries.now d)) c.loop-dot.dot-iterator c.into_iter-dot-iterator.result c.args.dots.now (ap (λ ks. set.from_list {R = dot_cmp} ks) c.into_iter-dot-iterator.ensures.into_iter_gives ∙ c.iter-dot-items.ensures.same) c.loop-dot.invariant c.in-None.ensures.steps.0
