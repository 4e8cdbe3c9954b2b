use Rattle.std.proofs.Common.{Bor, ℕ, List, map as map_list, sym, subst, ◌∙◌}
use Rattle.std.specs.FinMap as map
use Rattle.std.specs.FinSet as set
use Rattle.causal_context.specs.Dots.{Dots, dot_cmp}
use Rattle.mqtt_topics.specs.Matching.{Matches}
use Rattle.mqtt_topics.specs.Topics.{IsShared}
use Rattle.filter_trie.specs.Selected.{IsSelected}
use Rattle.subscription_set.specs.Filing.{Filed, HasUnder, text_cmp}
use Rattle.subscription_set.specs.Matching.{HasMatch, HasPlainFilter, IsPlainMatch, IsPlainMatched, dots_of}
use Rattle.subscription_set.specs.Members.{AreGroups}
use Rattle.subscription_set.proofs.Grouping.{filters_in, groups_found, pair_in, selected_both}
use Rattle.subscription_set.proofs.Latest.{any_map}
use Rattle.subscription_set.proofs.Matched.{found_dots, nothing_found, something_found, some_in, in_map}
use Rattle.subscription_set.proofs.by_filter.ByFilter.apart.Goals as goal

pub returns-in_err-found-clause-none : goal.returns-in_err-found-clause-none
returns-in_err-found-clause-none c = λ none.
    let N : Filed → Type 0 = λ v. ¬ (HasMatch v c.args.name.now) in
    absurd (let no = c.in_err-found.ensures.none (nothing_found c.self.inside.dots c.self.invariant (λ f. Matches f c.args.name.now) (subst N (sym c.self.view_is) none)) in cc)

pub returns-in_err-groups-clause-none : goal.returns-in_err-groups-clause-none
returns-in_err-groups-clause-none c = λ none.
    let found : List (Bor (List ℕ) × Bor Dots) = c.as_slice.result.now in
    let pairs = subst (λ rs. IsSelected (λ e. Matches e.0 c.args.name.now) (map.entries c.self.inside.dots) (map_list pair_in rs)) (sym c.as_slice.ensures.value) c.in_ok-found.ensures.pairs in
    let N : Filed → Type 0 = λ v. ¬ (HasMatch v c.args.name.now) in
    let one = some_in found c.in_err-groups.ensures.memory in
    absurd (subst N (sym c.self.view_is) none (something_found c.self.inside.dots c.self.invariant (λ f. Matches f c.args.name.now) (map_list pair_in found) pairs _ (in_map pair_in found one.0 one.1)))

pub returns-in_err-plain-clause-none : goal.returns-in_err-plain-clause-none
returns-in_err-plain-clause-none c = λ none.
    let found : List (Bor (List ℕ) × Bor Dots) = c.as_slice-2.result.now in
    let own = selected_both (λ e. Matches e.0 c.args.name.now) HasPlainFilter (map.entries c.self.inside.dots) (map_list pair_in c.in_ok-found.found.items) (map_list pair_in c.plain_in-found.result.items) c.in_ok-found.ensures.pairs c.plain_in-found.ensures in
    let pairs = subst (λ rs. IsSelected (λ e. IsPlainMatch c.args.name.now e.0) (map.entries c.self.inside.dots) (map_list pair_in rs)) (sym c.as_slice-2.ensures.value) own in
    let N : Filed → Type 0 = λ v. ¬ (HasMatch v c.args.name.now) in
    let one = some_in found c.in_err-plain.ensures.memory in
    let some = something_found c.self.inside.dots c.self.invariant (IsPlainMatch c.args.name.now) (map_list pair_in found) pairs _ (in_map pair_in found one.0 one.1) in
    absurd (subst N (sym c.self.view_is) none (some.0, (some.1.0, some.1.1, some.1.2.1)))

pub returns-clause-plain : goal.returns-clause-plain
returns-clause-plain c =
    let found : List (Bor (List ℕ) × Bor Dots) = c.as_slice-2.result.now in
    let own = selected_both (λ e. Matches e.0 c.args.name.now) HasPlainFilter (map.entries c.self.inside.dots) (map_list pair_in c.in_ok-found.found.items) (map_list pair_in c.plain_in-found.result.items) c.in_ok-found.ensures.pairs c.plain_in-found.ensures in
    let pairs = subst (λ rs. IsSelected (λ e. IsPlainMatch c.args.name.now e.0) (map.entries c.self.inside.dots) (map_list pair_in rs)) (sym c.as_slice-2.ensures.value) own in
    let M : Filed → Type 0 = λ v. IsPlainMatched v c.args.name.now (dots_of c.in_ok-plain.plain) in
    subst M c.self.view_is (found_dots c.self.inside.dots c.self.invariant (IsPlainMatch c.args.name.now) (map_list pair_in found) (dots_of c.in_ok-plain.plain) pairs
    (λ d. c.in_ok-plain.ensures.dots d ∙ sym (any_map (λ e. set.contains e.1 d) pair_in found)))

pub returns-clause-groups : goal.returns-clause-groups
returns-clause-groups c =
    let found : List (Bor (List ℕ) × Bor Dots) = c.as_slice.result.now in
    let groups = map_list (λ r. r.now) c.in_ok-groups.groups.items in
    let pairs = subst (λ rs. IsSelected (λ e. Matches e.0 c.args.name.now) (map.entries c.self.inside.dots) (map_list pair_in rs)) (sym c.as_slice.ensures.value) c.in_ok-found.ensures.pairs in
    let shared = subst (λ ks. IsSelected IsShared ks groups) (filters_in found) c.in_ok-groups.ensures.shared in
    let M : Filed → Type 0 = λ v. AreGroups (HasUnder text_cmp dot_cmp v) c.args.name.now groups in
    subst M c.self.view_is (groups_found c.self.inside.dots c.self.invariant c.args.name.now (map_list pair_in found) groups pairs shared c.in_ok-groups.ensures.filters)
