use Rattle.std.proofs.Common.{ℕ, List, ◌++◌, inl, inr, refl, sym, ap, subst, ◌∙◌}
use Rattle.filter_trie.specs.Search.Filing.{counted}
use Rattle.filter_trie.specs.Search.Branching.{Holds}
use Rattle.filter_trie.proofs.CountLaws.{not_filed}
use Rattle.filter_trie.proofs.BranchLaws.{holds_insert}
use Rattle.filter_trie.proofs.ends.end.Goals as goal

pub returns-then-not-has : goal.returns-then-not-has
returns-then-not-has c = λ f h. elim h [
  | inl a ↦ a
  | inr q ↦ absurd (not_filed (counted c.args.beginnings.now) c.args.hash c.hashed.result c.args.text.now c.args.level.now f c.requires c.hashed.ensures (c.if-not-has.ensures refl) q.0 q.1)
]

pub returns : goal.returns
returns c = λ f h.
    let H : List (List ℕ × Unit {0}) → Type 0 = λ es. Holds es f in
    let whole = c.in_ok-push_str-2.ensures.bytes ∙ ap (λ x. x ++ c.args.level.now) (c.in_ok-push_str.ensures.bytes ∙ ap (λ x. x ++ c.args.text.now) c.in_ok-whole.ensures.bytes) in
    let key = c.in-Some.ensures ∙ c.as_str.ensures.value ∙ whole in
    subst H (sym c.in_ok-insert.ensures.entries) (holds_insert c.args.ends.now.entries c.in-Some.filter tt f (elim h [ inl a ↦ inl a | inr q ↦ inr (q.1 ∙ sym key) ]))
