use Rattle.std.proofs.Common.{◌≡◌, map as map_list, sym, subst, ◌∙◌}
use Rattle.std.proofs.lemmas.Result.{IfOk-weaker}
use Rattle.std.specs.List.{list_any}
use Rattle.std.specs.FinMap as map
use Rattle.std.specs.FinSet as set
use Rattle.mqtt_topics.specs.Matching.{Matches}
use Rattle.filter_trie.specs.Selected.{IsSelected}
use Rattle.subscription_set.specs.Filing.{Filed}
use Rattle.subscription_set.specs.Matching.{HasMatch, IsMatched, dots_of}
use Rattle.subscription_set.proofs.Latest.{any_map}
use Rattle.causal_context.specs.Dots.{Dot}
use Rattle.subscription_set.proofs.Matched.{found_dots, nothing_found, something_found, some_in, in_map, ok_where}
use Rattle.subscription_set.proofs.by_filter.ByFilter.matching.Goals as goal

pub returns-in_err-found-clause-none : goal.returns-in_err-found-clause-none
returns-in_err-found-clause-none c = λ none.
    let N : Filed → Type 0 = λ v. ¬ (HasMatch v c.args.name.now) in
    absurd (let no = c.in_err-found.ensures.none (nothing_found c.self.inside.dots c.self.invariant (λ f. Matches f c.args.name.now) (subst N (sym c.self.view_is) none)) in cc)

pub returns-clause-dots : goal.returns-clause-dots
returns-clause-dots c =
    let found = c.as_slice.result.now in
    let pairs = subst (λ rs. IsSelected (λ e. Matches e.0 c.args.name.now) (map.entries c.self.inside.dots) (map_list (λ r. (r.0.now, r.1.now)) rs)) (sym c.as_slice.ensures.value) c.in_ok-found.ensures.pairs in
    IfOk-weaker c.gather.result (λ out. (d : Dot) → set.contains (dots_of out) d ≡ list_any (λ r. set.contains r.1.now d) found) (λ out. IsMatched c.args.self.now c.args.name.now (dots_of out))
    (λ out is.
    let M : Filed → Type 0 = λ v. IsMatched v c.args.name.now (dots_of out) in
    subst M c.self.view_is (found_dots c.self.inside.dots c.self.invariant (λ f. Matches f c.args.name.now) (map_list (λ r. (r.0.now, r.1.now)) found) (dots_of out) pairs
    (λ d. is d ∙ sym (any_map (λ e. set.contains e.1 d) (λ r. (r.0.now, r.1.now)) found))))
    c.gather.ensures.dots

pub returns-clause-none : goal.returns-clause-none
returns-clause-none c = λ none.
    let found = c.as_slice.result.now in
    let pairs = subst (λ rs. IsSelected (λ e. Matches e.0 c.args.name.now) (map.entries c.self.inside.dots) (map_list (λ r. (r.0.now, r.1.now)) rs)) (sym c.as_slice.ensures.value) c.in_ok-found.ensures.pairs in
    let N : Filed → Type 0 = λ v. ¬ (HasMatch v c.args.name.now) in
    ok_where c.gather.result
    (λ some.
    let one = some_in found some in
    subst N (sym c.self.view_is) none (something_found c.self.inside.dots c.self.invariant (λ f. Matches f c.args.name.now) (map_list (λ r. (r.0.now, r.1.now)) found) pairs _ (in_map (λ r. (r.0.now, r.1.now)) found one.0 one.1)))
    c.gather.ensures.memory
