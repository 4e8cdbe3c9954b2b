use Rattle.std.proofs.Common.{◌≡◌, List, ℕ, IsTrue, false, true, refl, sym, subst}
use Rattle.std.specs.Prelude.{codes}
use Rattle.mqtt_topics.specs.Matching.{Matches}
use Rattle.filter_trie.specs.Search.Filing.{IsFiled}
use Rattle.filter_trie.specs.Search.Seeking.{IsBefore}
use Rattle.filter_trie.proofs.BranchLaws.{leads_narrow, leads_before, leads_past}
use Rattle.filter_trie.proofs.ends.onward.Goals as goal

pub returns-in_default : goal.returns-in_default
returns-in_default c = leads_narrow (λ f. Matches f c.args.name.now) (λ f. Matches f c.args.name.now × IsFiled c.args.beginnings.now f) c.args.key.now c.past_filter.result (λ f q. q.0) c.past_filter.ensures

pub returns-then-is_before : goal.returns-then-is_before
returns-then-is_before c =
    let B : List ℕ → Type 0 = λ k. IsBefore k (codes "$share") in
    leads_before c.in-Some.ends.entries c.args.name.now (IsFiled c.args.beginnings.now) c.args.key.now (rw c.in-Some.is at c.requires.levels) (rw c.in-Some.is at c.requires.share) c.next_end.result
    (subst B c.as_str.ensures.same (c.if-is_before.ensures.0 refl)) c.next_end.ensures

pub returns-then-is_before-2 : goal.returns-then-is_before-2
returns-then-is_before-2 c = leads_narrow (λ f. Matches f c.args.name.now) (λ f. Matches f c.args.name.now × IsFiled c.args.beginnings.now f) c.args.key.now c.past_filter-then-is_before-2.result (λ f q. q.0) c.past_filter-then-is_before-2.ensures

pub returns : goal.returns
returns c =
    let B : List ℕ → Type 0 = λ k. IsBefore k (codes "$share0") in
    leads_past c.in-Some.ends.entries c.args.name.now (IsFiled c.args.beginnings.now) c.args.key.now (rw c.in-Some.is at c.requires.levels) (rw c.in-Some.is at c.requires.share) c.next_end-2.result
    (λ h. let f : IsTrue false = c.if-is_before-2.ensures.1 (subst B (sym c.as_str-2.ensures.same) h) in let e : false ≡ true = f in cc) c.next_end-2.ensures
