use Rattle.std.proofs.Common.{Vec, Bor, Global, ℕ, ◌+◌, List, ◌∷◌, drop, map as map_list, false, IsTrue, refl, sym, ap, subst, ◌∙◌}
use Rattle.std.proofs.lemmas.List.{drop_more, drop_all}
use Rattle.std.specs.List.{AllByRecursion}
use Rattle.filter_trie.proofs.Selecting.{Follows, begins, goes_with, goes_without, ends}
use Rattle.mqtt_topics.specs.Topics.{IsFilter, IsShared}
use Rattle.subscription_set.proofs.Grouping.{all_pushed, filter_in}
use Rattle.subscription_set.proofs.by_filter.shared_in.Goals as goal
use Rattle.subscription_set.proofs.by_filter.shared_in.Goals.{then-is_shared+in_ok-push, else-is_shared}

pub loop-filter-init : goal.loop-filter-init
loop-filter-init c = (
  begins IsShared _ _ _ refl (ap (map_list (λ r. r.now)) c.new-out.ensures.items),
  subst (λ (l : List (Bor (List ℕ))). AllByRecursion IsFilter (map_list (λ r. r.now) l)) (sym c.new-out.ensures.items) tt,
)

pub loop-filter-preserved : goal.loop-filter-preserved
loop-filter-preserved c =
    let found = c.args.found.now in
    let i = c.loop-filter.filter-index in
    let x = c.loop-filter-item.result.0 in
    let left = map_list filter_in (drop (i + 1) found) in
    let step = ap (map_list filter_in) (drop_more found i c.loop-filter-item.result c.loop-filter-test.true) ∙ ap (λ r. filter_in r ∷ left) (sym c.loop-filter-item.is) in
    let Left : Vec (Bor (List ℕ)) Global → Type 0 = λ o. Follows IsShared (map_list filter_in found) (map_list (λ r. r.now) o.items) left × AllByRecursion IsFilter (map_list (λ r. r.now) o.items) in
    elim c.if-is_shared.branch [
      | then-is_shared+in_ok-push w ↦ subst Left (sym w.out-is) (
        goes_with IsShared (λ r. r.now) (map_list filter_in found) (map_list filter_in (drop i found)) left x.now x c.loop-filter.out.items w.push.new.self.items step refl w.in_ok-push.ensures.items (w.if-is_shared.ensures.shared.0 refl) c.loop-filter.invariant.0,
        subst (λ (l : List (Bor (List ℕ))). AllByRecursion IsFilter (map_list (λ r. r.now) l)) (sym w.in_ok-push.ensures.items) (all_pushed IsFilter c.loop-filter.out.items x c.loop-filter.invariant.1 w.if-is_shared.ensures.filter),
      )
      | else-is_shared w ↦ subst Left (sym w.out-is) (
        goes_without IsShared (map_list filter_in found) (map_list filter_in (drop i found)) left (map_list (λ r. r.now) c.loop-filter.out.items) x.now step (λ h. let no : IsTrue false = w.if-is_shared.ensures.shared.1 h in cc) c.loop-filter.invariant.0,
        c.loop-filter.invariant.1,
      )
    ]

pub returns-clause-shared : goal.returns-clause-shared
returns-clause-shared c =
    let found = c.args.found.now in
    ends IsShared (map_list filter_in found) (map_list filter_in (drop c.loop-filter.filter-index found)) (map_list (λ r. r.now) c.loop-filter.out.items) (ap (map_list filter_in) (drop_all c.loop-filter.filter-index found c.loop-filter-test.false)) c.loop-filter.invariant.0
