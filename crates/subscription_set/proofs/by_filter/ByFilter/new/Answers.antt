use Rattle.std.proofs.Common.{sym, ap, subst, ◌∙◌}
use Rattle.causal_context.specs.Dots.{dot_cmp_total, dot_cmp_antisym}
use Rattle.subscription_set.specs.Filing.{IsFilled, spread}
use Rattle.subscription_set.proofs.Spreading.{filled_none, spread_empty, text_total, text_anti}
use Rattle.subscription_set.proofs.by_filter.ByFilter.new.Goals as goal

pub invariant_of-result : goal.invariant_of-result
invariant_of-result c = subst IsFilled (sym c.new.ensures) (filled_none text_total text_anti dot_cmp_total dot_cmp_antisym)

pub returns : goal.returns
returns c = ap spread c.new.ensures ∙ spread_empty text_total text_anti dot_cmp_total dot_cmp_antisym
