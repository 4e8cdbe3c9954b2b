use Rattle.std.proofs.Common.{subst}
use Rattle.causal_context.specs.Dots.{dot_cmp, dot_cmp_total, dot_cmp_antisym}
use Rattle.subscription_set.specs.Filing.{Filed, IsKeyCount, text_cmp}
use Rattle.subscription_set.proofs.Spreading.{text_total, text_anti, len_is}
use Rattle.subscription_set.proofs.groups.Groups.len.Goals as goal

pub returns : goal.returns
returns c =
    let P : Filed → Type 0 = λ v. IsKeyCount text_cmp dot_cmp v c.len.result in
    subst P c.self.view_is (len_is text_total text_anti dot_cmp_total dot_cmp_antisym c.self.inside.by_text.entries c.len.result c.len.ensures.len c.len.ensures.ordered c.self.invariant)
