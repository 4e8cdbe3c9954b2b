use Rattle.std.proofs.Common.{◌≡◌, ◌↔◌, true, false, IsTrue, refl, [], ◌∷◌, map as map_list, sym, ap, subst, ◌∙◌}
use Rattle.std.proofs.lemmas.Result.{IfOk-weaker}
use Rattle.std.specs.FinMap as map
use Rattle.std.specs.FinSet as set
use Rattle.causal_context.specs.Dots.{Dot}
use Rattle.mqtt_topics.specs.Matching.{Matches}
use Rattle.mqtt_topics.specs.Topics.{IsFilter, IsShared}
use Rattle.subscription_set.specs.Entries.{Entry}
use Rattle.subscription_set.specs.Indexing.{MatchesName, alone}
use Rattle.subscription_set.specs.Matching.{IsPlainMatch, dots_of}
use Rattle.subscription_set.specs.Members.{AreGroups, HasEntry, IsPlainAt}
use Rattle.subscription_set.proofs.Alone.{alone_at, alone_matches, alone_unmatched, none_match}
use Rattle.subscription_set.proofs.Grouping.{alone_group, alone_no_group}
use Rattle.subscription_set.proofs.lone_entry.LoneEntry.apart.Goals as goal

pub returns-then-not-matches-clause-plain : goal.returns-then-not-matches-clause-plain
returns-then-not-matches-clause-plain c =
    let name = c.args.name.now in
    let no : Matches c.self.inside.entry.filter name → ⊥ = λ m. (let yes = c.matches.ensures.1 (subst (λ f. Matches f name) (sym c.filter-filter.ensures) m) in let is = c.if-not-matches.true in cc) in
    subst (λ (y : Dot × Entry). (d : Dot) → (set.contains (dots_of c.none.result.plain) d ≡ true) ↔ IsPlainAt name (map.get (alone y) d)) c.self.view_is
    (none_match (IsPlainMatch name) (dots_of c.none.result.plain) (λ d. map.get (alone (c.self.inside.dot, c.self.inside.entry)) d) c.none.ensures.plain (alone_unmatched (c.self.inside.dot, c.self.inside.entry) (IsPlainMatch name) (λ p. no p.1)))

pub returns-then-not-matches-clause-groups : goal.returns-then-not-matches-clause-groups
returns-then-not-matches-clause-groups c =
    let name = c.args.name.now in
    let no : Matches c.self.inside.entry.filter name → ⊥ = λ m. (let yes = c.matches.ensures.1 (subst (λ f. Matches f name) (sym c.filter-filter.ensures) m) in let is = c.if-not-matches.true in cc) in
    subst (λ (y : Dot × Entry). AreGroups (HasEntry (alone y)) name (map_list (λ r. r.now) c.none.result.groups.items)) c.self.view_is
    (subst (AreGroups (HasEntry (alone (c.self.inside.dot, c.self.inside.entry))) name) (sym (ap (map_list (λ r. r.now)) c.none.ensures.groups)) (alone_no_group (c.self.inside.dot, c.self.inside.entry) name (λ s m. no m)))

pub returns-then-is_shared-clause-plain : goal.returns-then-is_shared-clause-plain
returns-then-is_shared-clause-plain c =
    let name = c.args.name.now in
    let shared : IsShared c.self.inside.entry.filter = subst IsShared c.filter-filter.ensures (c.if-is_shared.ensures.shared.0 refl) in
    IfOk-weaker c.shared.result (λ out. dots_of out.plain ≡ set.empty) (λ out. (d : Dot) → (set.contains (dots_of out.plain) d ≡ true) ↔ IsPlainAt name (map.get (alone c.args.self.now) d))
    (λ out is. subst (λ (y : Dot × Entry). (d : Dot) → (set.contains (dots_of out.plain) d ≡ true) ↔ IsPlainAt name (map.get (alone y) d)) c.self.view_is
    (none_match (IsPlainMatch name) (dots_of out.plain) (λ d. map.get (alone (c.self.inside.dot, c.self.inside.entry)) d) is (alone_unmatched (c.self.inside.dot, c.self.inside.entry) (IsPlainMatch name) (λ p. p.0 shared))))
    c.shared.ensures.plain

pub returns-then-is_shared-clause-groups : goal.returns-then-is_shared-clause-groups
returns-then-is_shared-clause-groups c =
    let name = c.args.name.now in
    let f = c.self.inside.entry.filter in
    let shared : IsShared f = subst IsShared c.filter-filter.ensures (c.if-is_shared.ensures.shared.0 refl) in
    let filter : IsFilter f = subst IsFilter c.filter-filter.ensures c.if-is_shared.ensures.filter in
    let yes : Matches f name = subst (λ g. Matches g name) c.filter-filter.ensures (c.matches.ensures.0 c.if-not-matches.false) in
    IfOk-weaker c.shared.result (λ out. map_list (λ r. r.now) out.groups.items ≡ c.filter-filter.result.now ∷ []) (λ out. AreGroups (HasEntry (alone c.args.self.now)) name (map_list (λ r. r.now) out.groups.items))
    (λ out is. subst (λ (y : Dot × Entry). AreGroups (HasEntry (alone y)) name (map_list (λ r. r.now) out.groups.items)) c.self.view_is
    (subst (AreGroups (HasEntry (alone (c.self.inside.dot, c.self.inside.entry))) name) (sym (is ∙ ap (λ g. g ∷ []) c.filter-filter.ensures)) (alone_group (c.self.inside.dot, c.self.inside.entry) name filter shared yes)))
    c.shared.ensures.groups

pub returns-then-is_shared-clause-none : goal.returns-then-is_shared-clause-none
returns-then-is_shared-clause-none c = λ none.
    let name = c.args.name.now in
    let yes : Matches c.self.inside.entry.filter name = subst (λ g. Matches g name) c.filter-filter.ensures (c.matches.ensures.0 c.if-not-matches.false) in
    absurd (subst (λ (y : Dot × Entry). (d : Dot) → MatchesName name (map.get (alone y) d) → ⊥) (sym c.self.view_is) none c.self.inside.dot (alone_at (c.self.inside.dot, c.self.inside.entry) (λ g. Matches g name) yes))

pub returns-clause-plain : goal.returns-clause-plain
returns-clause-plain c =
    let name = c.args.name.now in
    let f = c.self.inside.entry.filter in
    let own : IsShared f → ⊥ = λ s. (let no : IsTrue false = c.if-is_shared.ensures.shared.1 (subst IsShared (sym c.filter-filter.ensures) s) in cc) in
    let yes : Matches f name = subst (λ g. Matches g name) c.filter-filter.ensures (c.matches.ensures.0 c.if-not-matches.false) in
    subst (λ (y : Dot × Entry). (d : Dot) → (set.contains (dots_of c.plain.result.plain) d ≡ true) ↔ IsPlainAt name (map.get (alone y) d)) c.self.view_is
    (alone_matches (c.self.inside.dot, c.self.inside.entry) (IsPlainMatch name) (dots_of c.plain.result.plain) (own, yes) (c.plain.ensures.plain ∙ c.self.invariant))

pub returns-clause-groups : goal.returns-clause-groups
returns-clause-groups c =
    let name = c.args.name.now in
    let f = c.self.inside.entry.filter in
    let own : IsShared f → ⊥ = λ s. (let no : IsTrue false = c.if-is_shared.ensures.shared.1 (subst IsShared (sym c.filter-filter.ensures) s) in cc) in
    subst (λ (y : Dot × Entry). AreGroups (HasEntry (alone y)) name (map_list (λ r. r.now) c.plain.result.groups.items)) c.self.view_is
    (subst (AreGroups (HasEntry (alone (c.self.inside.dot, c.self.inside.entry))) name) (sym (ap (map_list (λ r. r.now)) c.plain.ensures.groups)) (alone_no_group (c.self.inside.dot, c.self.inside.entry) name (λ s m. own s)))
