use Rattle.std.proofs.Common.{◌≡◌, true, ◌↔◌, map as map_list, IfOk, IsOk, subst}
use Rattle.std.specs.FinMap as map
use Rattle.std.specs.FinSet as set
use Rattle.causal_context.specs.Dots.{Dot, dot_cmp}
use Rattle.mqtt_topics.specs.Matching.{Matches}
use Rattle.subscription_set.specs.Filing.{HasUnder, text_cmp}
use Rattle.subscription_set.specs.Indexing.{ByDot, MatchesName}
use Rattle.subscription_set.specs.Matching.{IsPlainMatch, IsPlainMatched, dots_of}
use Rattle.subscription_set.specs.Members.{AreGroups, HasEntry, IsPlainAt}
use Rattle.subscription_set.proofs.Filtered.{matched_dots, matched_nothing}
use Rattle.subscription_set.proofs.Grouping.{groups_indexed}
use Rattle.subscription_set.proofs.Picking.{if_ok}
use Rattle.subscription_set.proofs.indexed.IndexedEntries.apart.Goals as goal

pub returns-clause-plain : goal.returns-clause-plain
returns-clause-plain c =
    let m : ByDot = map.from_entries c.self.inside.entries.entries in
    let P : ByDot → Type 0 = λ n. IfOk c.apart.result (λ out. (d : Dot) → (set.contains (dots_of out.plain) d ≡ true) ↔ IsPlainAt c.args.name.now (map.get n d)) in
    subst P c.self.view_is (if_ok (λ out. IsPlainMatched c.self.inside.index.matches c.args.name.now (dots_of out.plain)) (λ out. (d : Dot) → (set.contains (dots_of out.plain) d ≡ true) ↔ IsPlainAt c.args.name.now (map.get m d)) c.apart.result
    (λ out. matched_dots (IsPlainMatch c.args.name.now) m c.self.inside.index.matches c.self.invariant.matched (dots_of out.plain)) c.apart.ensures.plain)

pub returns-clause-groups : goal.returns-clause-groups
returns-clause-groups c =
    let m : ByDot = map.from_entries c.self.inside.entries.entries in
    let v = c.self.inside.index.matches in
    let P : ByDot → Type 0 = λ n. IfOk c.apart.result (λ out. AreGroups (HasEntry n) c.args.name.now (map_list (λ r. r.now) out.groups.items)) in
    subst P c.self.view_is (if_ok (λ out. AreGroups (HasUnder text_cmp dot_cmp v) c.args.name.now (map_list (λ r. r.now) out.groups.items)) (λ out. AreGroups (HasEntry m) c.args.name.now (map_list (λ r. r.now) out.groups.items)) c.apart.result
    (λ out. groups_indexed m v c.self.invariant.matched c.args.name.now (map_list (λ r. r.now) out.groups.items)) c.apart.ensures.groups)

pub returns-clause-none : goal.returns-clause-none
returns-clause-none c =
    let m : ByDot = map.from_entries c.self.inside.entries.entries in
    let P : ByDot → Type 0 = λ n. ((d : Dot) → MatchesName c.args.name.now (map.get n d) → ⊥) → IsOk c.apart.result in
    subst P c.self.view_is (λ none. c.apart.ensures.none (matched_nothing (λ f. Matches f c.args.name.now) m c.self.inside.index.matches c.self.invariant.matched none))
