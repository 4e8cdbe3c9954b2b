use Rattle.std.proofs.Common.{subst}
use Rattle.causal_context.specs.Dots.{dot_cmp_total, dot_cmp_antisym}
use Rattle.subscription_set.specs.Filing.{Filed, IsEmptiness}
use Rattle.subscription_set.proofs.Spreading.{text_total, text_anti, emptiness_is}
use Rattle.subscription_set.proofs.groups.Groups.is_empty.Goals as goal

pub returns : goal.returns
returns c =
    let P : Filed → Type 0 = λ v. IsEmptiness v c.is_empty.result in
    subst P c.self.view_is (emptiness_is text_total text_anti dot_cmp_total dot_cmp_antisym c.self.inside.by_text.entries c.is_empty.result c.is_empty.ensures.0 c.is_empty.ensures.1 c.self.invariant)
