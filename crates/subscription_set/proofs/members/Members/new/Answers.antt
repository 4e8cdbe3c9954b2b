use Rattle.std.proofs.Common.{List, ℕ, sym, ap, subst, ◌∙◌}
use Rattle.std.specs.FinMap as map
use Rattle.subscription_set.specs.Members.{Clients}
use Rattle.subscription_set.specs.Filing.{IsFilled, spread, text_cmp}
use Rattle.subscription_set.proofs.Spreading.{filled_none, spread_empty, text_total, text_anti}
use Rattle.subscription_set.proofs.members.Members.new.Goals as goal

pub invariant_of-result : goal.invariant_of-result
invariant_of-result c = subst (λ (es : List (List ℕ × Clients)). IsFilled (map.from_entries {R = text_cmp} es)) (sym c.new.ensures.empty) (filled_none text_total text_anti text_total text_anti)

pub returns : goal.returns
returns c = ap (λ (es : List (List ℕ × Clients)). spread (map.from_entries {R = text_cmp} es)) c.new.ensures.empty ∙ spread_empty text_total text_anti text_total text_anti
