use Rattle.std.proofs.Common.{sym, ap, ◌∙◌}
use Rattle.std.specs.FinMap as map
use Rattle.std.specs.FinSet as set
use Rattle.causal_context.specs.Dots.{dot_cmp}
use Rattle.subscription_set.specs.Indexing.{below_at}
use Rattle.subscription_set.proofs.Joins.{on_err}
use Rattle.subscription_set.proofs.Picking.{picked_none, picked_yes, picked_end, picked_there}
use Rattle.subscription_set.proofs.live.those_below.Goals as goal

pub loop-dot-init : goal.loop-dot-init
loop-dot-init c = picked_none (λ d. below_at c.args.version (map.get c.args.entries.now d)) c.new-out.result c.into_iter-dot-iterator.result c.new-out.ensures

pub loop-dot-preserved-in-Continue-1 : goal.loop-dot-preserved-in-Continue-1
loop-dot-preserved-in-Continue-1 c = picked_yes (λ d. below_at c.args.version (map.get c.args.entries.now d)) c.in-Some.dot.now c.loop-dot.out c.insert.new.self c.loop-dot.dot-iterator c.next.new.self c.into_iter-dot-iterator.result c.in-Some.ensures.steps (sym c.is_below_at.ensures ∙ c.if-is_below_at.true) c.in_ok-insert.ensures.ok c.loop-dot.invariant

pub returns-in_err-insert-clause-memory : goal.returns-in_err-insert-clause-memory
returns-in_err-insert-clause-memory c = on_err c.from_residual.result (picked_there (λ d. below_at c.args.version (map.get c.args.entries.now d)) c.in-Some.dot.now c.loop-dot.out c.loop-dot.dot-iterator c.next.new.self c.into_iter-dot-iterator.result c.args.dots.now c.in-Some.ensures.steps (sym c.is_below_at.ensures ∙ c.if-is_below_at.true) (ap (λ ks. set.from_list {R = dot_cmp} ks) c.into_iter-dot-iterator.ensures.into_iter_gives ∙ c.iter-dot-items.ensures.same) c.loop-dot.invariant)

pub returns-clause-dots : goal.returns-clause-dots
returns-clause-dots c = picked_end (λ d. below_at c.args.version (map.get c.args.entries.now d)) c.loop-dot.out c.loop-dot.dot-iterator c.into_iter-dot-iterator.result c.args.dots.now c.in-None.ensures.steps.0
    (ap (λ ks. set.from_list {R = dot_cmp} ks) c.into_iter-dot-iterator.ensures.into_iter_gives ∙ c.iter-dot-items.ensures.same) c.loop-dot.invariant
