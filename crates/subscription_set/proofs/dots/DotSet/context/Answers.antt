use Rattle.std.proofs.Common.{true, refl, ap, ◌∙◌}
use Rattle.std.specs.FinSet as set
use Rattle.causal_context.specs.Dots.{dot_cmp}
use Rattle.subscription_set.proofs.Picking.{picked_none, picked_yes, picked_end, picked_all, picked_there, none_there}
use Rattle.subscription_set.proofs.dots.DotSet.context.Goals as goal

pub loop-dot-init : goal.loop-dot-init
loop-dot-init c = picked_none (λ _. true) c.new-context.result c.into_iter-dot-iterator.result c.new-context.ensures

pub loop-dot-preserved : goal.loop-dot-preserved
loop-dot-preserved c = picked_yes (λ _. true) c.in-Some.dot.now c.loop-dot.context c.insert.new.self c.loop-dot.dot-iterator c.next.new.self c.into_iter-dot-iterator.result c.in-Some.ensures.steps refl c.in_ok-insert.ensures.ok c.loop-dot.invariant

pub returns-clause-dots : goal.returns-clause-dots
returns-clause-dots c = picked_all c.loop-dot.context c.args.self.now (picked_end (λ _. true) c.loop-dot.context c.loop-dot.dot-iterator c.into_iter-dot-iterator.result c.args.self.now c.in-None.ensures.steps.0
    (ap (λ ks. set.from_list {R = dot_cmp} ks) c.into_iter-dot-iterator.ensures.into_iter_gives ∙ c.iter-dot-items.ensures.same) c.loop-dot.invariant)

pub returns-in_err-insert-clause-none : goal.returns-in_err-insert-clause-none
returns-in_err-insert-clause-none c = λ none. absurd (none_there (λ _. true) c.args.self.now none (picked_there (λ _. true) c.in-Some.dot.now c.loop-dot.context c.loop-dot.dot-iterator c.next.new.self c.into_iter-dot-iterator.result c.args.self.now c.in-Some.ensures.steps refl
    (ap (λ ks. set.from_list {R = dot_cmp} ks) c.into_iter-dot-iterator.ensures.into_iter_gives ∙ c.iter-dot-items.ensures.same) c.loop-dot.invariant))
