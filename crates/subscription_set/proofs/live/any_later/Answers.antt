use Rattle.std.proofs.Common.{sym, ap, ◌∙◌}
use Rattle.std.specs.FinMap as map
use Rattle.std.specs.FinSet as set
use Rattle.causal_context.specs.Dots.{dot_cmp}
use Rattle.subscription_set.specs.Indexing.{later_at}
use Rattle.subscription_set.proofs.Picking.{any_found, any_ended}
use Rattle.subscription_set.proofs.live.any_later.Goals as goal

pub returns-then-is_later : goal.returns-then-is_later
returns-then-is_later c = any_found (λ d. later_at (c.args.dot, c.args.entry.now) d (map.get c.args.entries.now d)) c.loop-other.other-iterator c.into_iter-other-iterator.result c.args.dots.now (ap (λ ks. set.from_list {R = dot_cmp} ks) c.into_iter-other-iterator.ensures.into_iter_gives ∙ c.iter-other-items.ensures.same) c.loop-other.invariant c.in-Some.other.now c.next.new.self c.in-Some.ensures.steps (sym c.is_later.ensures ∙ c.if-is_later.true)

pub returns : goal.returns
returns c = any_ended (λ d. later_at (c.args.dot, c.args.entry.now) d (map.get c.args.entries.now d)) c.loop-other.other-iterator c.into_iter-other-iterator.result c.args.dots.now (ap (λ ks. set.from_list {R = dot_cmp} ks) c.into_iter-other-iterator.ensures.into_iter_gives ∙ c.iter-other-items.ensures.same) c.loop-other.invariant c.in-None.ensures.steps.0
