use Rattle.std.proofs.Common.{List, ℕ, IsTrue, false, subst, inl}
use Rattle.filter_trie.specs.Search.Seeking.{IsBefore}
use Rattle.filter_trie.proofs.StepLaws.{begins_ended, wild_multi}
use Rattle.filter_trie.proofs.steps.parent_step.Goals as goal

pub returns-then-is_before-clause-covers : goal.returns-then-is_before-clause-covers
returns-then-is_before-clause-covers c = λ t m after. wild_multi c.args.rest.now t (inl (begins_ended t m))

pub returns-clause-covers : goal.returns-clause-covers
returns-clause-covers c = λ t m after.
    let B : List ℕ → Type 0 = IsBefore c.args.rest.now in
    let h : IsTrue false = c.if-is_before.ensures.1 (subst B (begins_ended t m) after) in cc
