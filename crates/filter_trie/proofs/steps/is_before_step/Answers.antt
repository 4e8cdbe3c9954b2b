use Rattle.std.proofs.Common.{List, ℕ, ◌++◌, sym, ap, subst, ◌∙◌}
use Rattle.filter_trie.specs.Search.Seeking.{IsBefore}
use Rattle.filter_trie.proofs.Order.{after_front, without_front, unlike_front}
use Rattle.filter_trie.proofs.steps.is_before_step.Goals as goal

pub returns-in-Some : goal.returns-in-Some
returns-in-Some c =
    let level = c.args.step.now.level.now in
    let tail = c.args.step.now.tail.now in
    let h = c.in-Some.ensures.cases in
    let e = h.1.1 ∙ ap (λ r. level ++ r) (sym h.2) in
    let B : List ℕ → Type 0 = λ t. IsBefore t (level ++ tail) in (
      λ t. subst B (sym e) (after_front level c.in-Some.rest.now tail (c.is_before.ensures.0 t)),
      λ b. c.is_before.ensures.1 (without_front level c.in-Some.rest.now tail (subst B e b)),
    )

pub returns-in-None : goal.returns-in-None
returns-in-None c =
    let same = unlike_front c.args.step.now.level.now c.args.step.now.tail.now c.args.text.now c.in-None.ensures.cases in
    (λ t. same.1 (c.is_before-in-None.ensures.0 t), λ b. c.is_before-in-None.ensures.1 (same.0 b))
