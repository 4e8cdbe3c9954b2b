use Rattle.std.proofs.Common.{◌≡◌, ℕ, List, false, MatchOption, sym, subst, ◌∙◌}
use Rattle.std.specs.FinMap as map
use Rattle.std.specs.FinSet as set
use Rattle.subscription_set.specs.Members.{Seats}
use Rattle.subscription_set.specs.Filing.{IsGroup, text_cmp}
use Rattle.law_maps.proofs.Tables.{get_table}
use Rattle.subscription_set.proofs.Spreading.{text_total, text_anti, under_is}
use Rattle.subscription_set.proofs.members.Members.under.Goals as goal

pub returns : goal.returns
returns c =
    let es = c.self.inside.by_filter.entries in
    let P : Seats → Type 0 = λ v. MatchOption c.get.result ((q : List ℕ) → set.contains v (c.args.filter.now, q) ≡ false) (λ d. IsGroup text_cmp text_cmp v c.args.filter.now d.now) in
    subst P c.self.view_is (under_is text_total text_anti text_total text_anti c.get.result (map.from_entries es) c.args.filter.now (c.get.ensures.value ∙ sym (get_table text_total es c.args.filter.now)) c.self.invariant)
