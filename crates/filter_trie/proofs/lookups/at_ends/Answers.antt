use Rattle.std.proofs.Common.{ℕ, List, IsTrue, false, map as map_list, refl, sym, ap, subst}
use Rattle.mqtt_topics.specs.Matching.{Matches}
use Rattle.filter_trie.proofs.Selecting.{Follows, begins, goes_with, goes_without, ends}
use Rattle.filter_trie.proofs.Jumping.{rises}
use Rattle.filter_trie.proofs.CountLaws.{alike}
use Rattle.filter_trie.proofs.LookupLaws.{found_at, found_here, missed_here, all_found, none_found}
use Rattle.filter_trie.proofs.lookups.at_ends.Goals as goal

pub loop-end-init : goal.loop-end-init
loop-end-init g c =
    let es = c.args.pairs.now.entries in
    begins (λ e. Matches e.0 c.args.name.now) (found_at es c.args.ends.now.entries) (found_at es c.into_iter-end-iterator.result) _
    (ap (found_at es) (sym c.into_iter-end-iterator.ensures.into_iter_gives.0)) (ap (map_list _) c.new-out.ensures.items)

pub loop-end-preserved-in_default : goal.loop-end-preserved-in_default
loop-end-preserved-in_default g c =
    let es = c.args.pairs.now.entries in
    let F : List (List ℕ × g.row.V.Denot) → Type 0 = λ left. Follows (λ e. Matches e.0 c.args.name.now) (found_at es c.args.ends.now.entries) (map_list (λ r. (r.0.now, r.1.now)) c.loop-end.out.items) left in
    subst F (missed_here es c.loop-end.end-iterator c.next.new.self _ c.in-Some.ensures.steps c.in_default.ensures.value) c.loop-end.invariant

pub loop-end-preserved-then-not-matches : goal.loop-end-preserved-then-not-matches
loop-end-preserved-then-not-matches g c =
    let es = c.args.pairs.now.entries in
    goes_without (λ e. Matches e.0 c.args.name.now) (found_at es c.args.ends.now.entries) (found_at es c.loop-end.end-iterator) (found_at es c.next.new.self) _ _
    (found_here es c.loop-end.end-iterator c.next.new.self _ c.in-Some.ensures.steps _ _ c.in-Some-get_key_value.ensures.value c.in-Some-get_key_value.ensures.same_key)
    (λ q. let h : IsTrue false = c.if-not-matches.ensures.1 q in cc) c.loop-end.invariant

pub loop-end-preserved : goal.loop-end-preserved
loop-end-preserved g c =
    let es = c.args.pairs.now.entries in
    goes_with (λ e. Matches e.0 c.args.name.now) (λ r. (r.0.now, r.1.now)) (found_at es c.args.ends.now.entries) (found_at es c.loop-end.end-iterator) (found_at es c.next.new.self)
    (c.in-Some-get_key_value.filter.now, c.in-Some-get_key_value.value.now) (c.in-Some-get_key_value.filter, c.in-Some-get_key_value.value) c.loop-end.out.items c.push.new.self.items
    (found_here es c.loop-end.end-iterator c.next.new.self _ c.in-Some.ensures.steps _ _ c.in-Some-get_key_value.ensures.value c.in-Some-get_key_value.ensures.same_key)
    refl c.in_ok-push.ensures.items (c.if-not-matches.ensures.0 refl) c.loop-end.invariant

pub returns-in_err-push-clause-none : goal.returns-in_err-push-clause-none
returns-in_err-push-clause-none g c = λ none.
    let M : List ℕ → Type 0 = λ f. Matches f c.args.name.now in
    let same = alike c.in-Some.end.now c.in-Some-get_key_value.filter.now c.in-Some-get_key_value.ensures.same_key in
    absurd (none_found M c.in-Some.end.now c.in-Some-get_key_value.value.now c.args.pairs.now.entries (sym c.in-Some-get_key_value.ensures.value) none (subst M (sym same) (c.if-not-matches.ensures.0 refl)))

pub returns-clause-pairs : goal.returns-clause-pairs
returns-clause-pairs g c =
    let es = c.args.pairs.now.entries in
    let keys = c.args.ends.now.entries in
    all_found (λ f. Matches f c.args.name.now) keys es _ (rises es c.len.ensures.ordered) (rises keys c.into_iter-end-iterator.ensures.into_iter_gives.5) c.requires
    (ends (λ e. Matches e.0 c.args.name.now) (found_at es keys) (found_at es c.loop-end.end-iterator) _ (ap (found_at es) c.in-None.ensures.steps.0) c.loop-end.invariant)
