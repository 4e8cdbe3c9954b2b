use Rattle.std.proofs.Common.{List, [], ◌∷◌, ◌++◌, inl, inr, refl, sym, ap, subst, ◌∙◌}
use Rattle.filter_trie.specs.declared.ends.Branch.{Branch}
use Rattle.filter_trie.specs.Search.Filing.{counted}
use Rattle.filter_trie.specs.Search.Branching.{Waits}
use Rattle.filter_trie.proofs.CountLaws.{not_begun}
use Rattle.filter_trie.proofs.BranchLaws.{waits_push, longer}
use Rattle.filter_trie.proofs.ends.grow.Goals as goal

pub returns-then-not-has : goal.returns-then-not-has
returns-then-not-has c = λ f h. elim h [
  | inl a ↦ a
  | inr q ↦ absurd (not_begun (counted c.args.beginnings.now) c.args.hash c.hashed.result c.hashed-2.result c.args.text.now c.args.level.now f q.1.0 c.requires c.hashed.ensures c.hashed-2.ensures (c.if-not-has.ensures refl) q.0 q.1.1)
]

pub returns : goal.returns
returns c = λ f h.
    let B : List Branch → Type 0 = λ bs. Waits bs f in
    let whole = c.in_ok-push_str-3.ensures.bytes ∙ ap (λ x. x ++ 47 ∷ [])
    (c.in_ok-push_str-2.ensures.bytes ∙ ap (λ x. x ++ c.args.level.now) (c.in_ok-push_str.ensures.bytes ∙ ap (λ x. x ++ c.args.text.now) c.in_ok-whole.ensures.bytes)) in
    subst B (sym c.in_ok-push.ensures.items) (waits_push c.args.branches.now.items _ f (elim h [ inl a ↦ inl a | inr q ↦ inr (q.1.0, q.1.1 ∙ longer c.args.text.now c.args.level.now q.1.0 _ whole, q.1.2) ]))
