use Rattle.std.proofs.Common.{◌≡◌, true, ◌∷◌, ◌++◌, [], map as map_list, sym, ap, subst, ◌∙◌}
use Rattle.std.proofs.lemmas.List.{append-nil, append_assoc, map-append}
use Rattle.std.specs.List.Sorted.{IsStrictlySortedBy}
use Rattle.std.specs.FinMap as map
use Rattle.std.specs.FinSet as set
use Rattle.causal_context.specs.Dots.{dot_cmp}
use Rattle.subscription_set.specs.Standing.{is_latest}
use Rattle.subscription_set.proofs.Walking.{latest_at, latest_of_all, walk_is, walk_take}
use Rattle.subscription_set.proofs.live.add_latest.Goals as goal
use Rattle.subscription_set.proofs.live.add_latest.Goals.{then-all_latest-via-then-all_latest, then-all_latest-via-else-all_latest+then-is_the_latest}

pub returns-in_err-push-clause-none : goal.returns-in_err-push-clause-none
returns-in_err-push-clause-none c = λ none.
    let m = c.args.entries.now in
    let all = c.into_iter-dot-iterator.result in
    let rises = subst (IsStrictlySortedBy dot_cmp) (sym c.into_iter-dot-iterator.ensures.into_iter_gives) c.iter-dot-items.ensures.rises in
    let whole = walk_is m all c.args.dots.now rises (ap (λ ks. set.from_list {R = dot_cmp} ks) c.into_iter-dot-iterator.ensures.into_iter_gives ∙ c.iter-dot-items.ensures.same) in
    let is : is_latest (map.entries m) (c.in-Some.dot.now, c.in-Some-get.entry.now) ≡ true = elim c.then-all_latest.branch [
      | then-all_latest-via-then-all_latest w ↦ latest_of_all m (sym c.are_all_latest-all_latest.ensures ∙ w.if-all_latest.true) c.in-Some.dot.now c.in-Some-get.entry.now (sym c.in-Some-get.ensures)
      | then-all_latest-via-else-all_latest+then-is_the_latest w ↦ sym w.is_the_latest.ensures ∙ w.if-is_the_latest.true
    ] in
    let here = walk_take m c.loop-dot.dot-iterator c.next.new.self c.in-Some.dot.now c.in-Some-get.entry.now c.in-Some.ensures.steps (sym c.in-Some-get.ensures) is in
    absurd (let no : c.in-Some-get.entry.now ∷ map_list (λ x. x.1) (latest_at m c.next.new.self) ≡ [] = sym (ap (map_list (λ x. x.1)) here) ∙ c.loop-dot.invariant.left (whole ∙ none) in cc)

pub returns-clause-latest : goal.returns-clause-latest
returns-clause-latest c =
    let m = c.args.entries.now in
    let all = c.into_iter-dot-iterator.result in
    let rises = subst (IsStrictlySortedBy dot_cmp) (sym c.into_iter-dot-iterator.ensures.into_iter_gives) c.iter-dot-items.ensures.rises in
    let whole = walk_is m all c.args.dots.now rises (ap (λ ks. set.from_list {R = dot_cmp} ks) c.into_iter-dot-iterator.ensures.into_iter_gives ∙ c.iter-dot-items.ensures.same) in
    let shown = map_list (λ r. r.now) c.loop-dot.out.items in
    sym (append-nil shown) ∙ ap (λ s. shown ++ map_list (λ x. x.1) (latest_at m s)) (sym c.in-None.ensures.steps.0) ∙ c.loop-dot.invariant.items ∙ ap (λ l. map_list (λ r. r.now) c.args.out.now.items ++ l) whole

pub loop-dot-preserved-in-loop-dot : goal.loop-dot-preserved-in-loop-dot
loop-dot-preserved-in-loop-dot c =
    let m = c.args.entries.now in
    let shown = map_list (λ r. r.now) c.loop-dot.out.items in
    let left = map_list (λ x. x.1) (latest_at m c.next.new.self) in
    let is : is_latest (map.entries m) (c.in-Some.dot.now, c.in-Some-get.entry.now) ≡ true = elim c.then-all_latest.branch [
      | then-all_latest-via-then-all_latest w ↦ latest_of_all m (sym c.are_all_latest-all_latest.ensures ∙ w.if-all_latest.true) c.in-Some.dot.now c.in-Some-get.entry.now (sym c.in-Some-get.ensures)
      | then-all_latest-via-else-all_latest+then-is_the_latest w ↦ sym w.is_the_latest.ensures ∙ w.if-is_the_latest.true
    ] in
    let here = walk_take m c.loop-dot.dot-iterator c.next.new.self c.in-Some.dot.now c.in-Some-get.entry.now c.in-Some.ensures.steps (sym c.in-Some-get.ensures) is in
    record {
      items = ap (λ es. map_list (λ r. r.now) es ++ left) c.in_ok-push.ensures.items
          ∙ ap (λ es. es ++ left) (map-append (λ r. r.now) c.loop-dot.out.items (c.in-Some-get.entry ∷ []))
          ∙ append_assoc shown (c.in-Some-get.entry.now ∷ []) left
          ∙ ap (λ xs. shown ++ map_list (λ x. x.1) xs) (sym here) ∙ c.loop-dot.invariant.items;
      left = λ none. absurd (let no : c.in-Some-get.entry.now ∷ left ≡ [] = sym (ap (map_list (λ x. x.1)) here) ∙ c.loop-dot.invariant.left none in cc);
    }
