use Rattle.std.proofs.Common.{◌≡◌, ◌↔◌, true, map as map_list, sym, ap, subst, ◌∙◌}
use Rattle.std.specs.FinMap as map
use Rattle.std.specs.FinSet as set
use Rattle.causal_context.specs.Dots.{Dot}
use Rattle.subscription_set.specs.Indexing.{ByDot}
use Rattle.subscription_set.specs.Holding.{held}
use Rattle.subscription_set.specs.Matching.{IsPlainMatch, dots_of}
use Rattle.subscription_set.specs.Members.{AreGroups, HasEntry, IsPlainAt}
use Rattle.subscription_set.proofs.Alone.{none_match, unmatched}
use Rattle.subscription_set.proofs.Grouping.{no_entry}
use Rattle.subscription_set.proofs.entry_map.EntryMap.apart.Goals as goal

pub returns-in-Nothing-clause-plain : goal.returns-in-Nothing-clause-plain
returns-in-Nothing-clause-plain c =
    subst (λ (m : ByDot). (d : Dot) → (set.contains (dots_of c.none.result.plain) d ≡ true) ↔ IsPlainAt c.args.name.now (map.get m d)) (sym (ap held c.in-Nothing.is) ∙ c.self.view_is)
    (none_match (IsPlainMatch c.args.name.now) (dots_of c.none.result.plain) (λ d. map.get map.empty d) c.none.ensures.plain (unmatched (IsPlainMatch c.args.name.now)))

pub returns-in-Nothing-clause-groups : goal.returns-in-Nothing-clause-groups
returns-in-Nothing-clause-groups c =
    subst (λ (m : ByDot). AreGroups (HasEntry m) c.args.name.now (map_list (λ r. r.now) c.none.result.groups.items)) (sym (ap held c.in-Nothing.is) ∙ c.self.view_is)
    (subst (AreGroups (HasEntry map.empty) c.args.name.now) (sym (ap (map_list (λ r. r.now)) c.none.ensures.groups)) (no_entry c.args.name.now))
