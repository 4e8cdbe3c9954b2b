use Rattle.std.proofs.Common.{◌≡◌, false, MatchOption, sym, subst, ◌∙◌}
use Rattle.std.specs.FinMap as map
use Rattle.std.specs.FinSet as set
use Rattle.causal_context.specs.Dots.{Dot, dot_cmp, dot_cmp_total, dot_cmp_antisym}
use Rattle.subscription_set.specs.Filing.{Filed, IsGroup, text_cmp}
use Rattle.law_maps.proofs.Tables.{get_table}
use Rattle.subscription_set.proofs.Spreading.{text_total, text_anti, under_is}
use Rattle.subscription_set.proofs.groups.Groups.under.Goals as goal

pub returns : goal.returns
returns c =
    let es = c.self.inside.by_text.entries in
    let P : Filed → Type 0 = λ v. MatchOption c.get.result ((q : Dot) → set.contains v (c.args.text.now, q) ≡ false) (λ d. IsGroup text_cmp dot_cmp v c.args.text.now d.now) in
    subst P c.self.view_is (under_is text_total text_anti dot_cmp_total dot_cmp_antisym c.get.result (map.from_entries es) c.args.text.now (c.get.ensures.value ∙ sym (get_table text_total es c.args.text.now)) c.self.invariant)
