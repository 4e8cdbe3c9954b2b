use Rattle.std.proofs.Common.{◌||◌, ap, ◌∙◌}
use Rattle.std.proofs.lemmas.List.{take_all}
use Rattle.std.specs.List.{list_any}
use Rattle.std.specs.FinSet as set
use Rattle.causal_context.specs.Dots.{dot_cmp}
use Rattle.subscription_set.proofs.Matched.{any_more}
use Rattle.subscription_set.proofs.by_filter.united.Goals as goal

pub loop-dots-init : goal.loop-dots-init
loop-dots-init c = λ d. ap (λ s. set.contains s d) c.new-out.ensures ∙ set.contains-empty dot_cmp d

pub loop-dots-preserved : goal.loop-dots-preserved
loop-dots-preserved c = λ d. c.in_ok-add_all.ensures d ∙ ap (λ b. b || set.contains c.loop-dots-item.result.1.now d) (c.loop-dots.invariant d)
    ∙ any_more (λ r. set.contains r.1.now d) c.args.found.now c.loop-dots.dots-index c.loop-dots-item.result c.loop-dots-item.is c.loop-dots-test.true

pub returns-clause-dots : goal.returns-clause-dots
returns-clause-dots c = λ d. c.loop-dots.invariant d ∙ ap (list_any (λ r. set.contains r.1.now d)) (take_all c.loop-dots.dots-index c.args.found.now c.loop-dots-test.false)
