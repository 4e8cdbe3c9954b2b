use Rattle.std.proofs.Common.{sym, ap, ◌∙◌}
use Rattle.std.specs.FinSet as set
use Rattle.causal_context.specs.Dots.{dot_cmp}
use Rattle.subscription_set.specs.Placing.{dots_placed}
use Rattle.subscription_set.proofs.OneDot.{has_one, has_none}
use Rattle.subscription_set.proofs.dots.DotSet.is_empty.Goals as goal

pub returns-in-One : goal.returns-in-One
returns-in-One c = (c.in-One.field-0, ap (λ s. set.contains s c.in-One.field-0) (sym c.self.view_is ∙ (λ i. set.from_list {R = dot_cmp} (dots_placed (c.in-One.is i)))) ∙ has_one c.in-One.field-0)

pub returns-in-Many : goal.returns-in-Many
returns-in-Many c = has_none c.in-Many.dots.keys c.args.self.now c.is_empty.result (sym (λ i. set.from_list {R = dot_cmp} (dots_placed (c.in-Many.is i))) ∙ c.self.view_is) c.is_empty.ensures.0 c.is_empty.ensures.1
