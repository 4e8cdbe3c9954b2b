use Rattle.std.proofs.Common.{List, ℕ, ◌≡◌, false, MatchOption, sym, subst, ◌∙◌}
use Rattle.std.specs.FinMap as map
use Rattle.std.specs.FinSet as set
use Rattle.causal_context.specs.Dots.{Dot, dot_cmp}
use Rattle.subscription_set.specs.Filing.{Places, IsGroup, pair_cmp, text_cmp}
use Rattle.law_maps.proofs.Tables.{get_table}
use Rattle.subscription_set.proofs.Spreading.{text_total, text_anti, filed_total, filed_anti, under_is}
use Rattle.subscription_set.proofs.by_client.ByClient.under.Goals as goal

pub returns : goal.returns
returns c =
    let es = c.self.inside.by_client.entries in
    let P : Places → Type 0 = λ v. MatchOption c.get.result ((q : List ℕ × Dot) → set.contains v (c.args.client.now, q) ≡ false) (λ d. IsGroup text_cmp (pair_cmp text_cmp dot_cmp) v c.args.client.now d.now) in
    subst P c.self.view_is (under_is text_total text_anti filed_total filed_anti c.get.result (map.from_entries es) c.args.client.now (c.get.ensures.value ∙ sym (get_table text_total es c.args.client.now)) c.self.invariant)
