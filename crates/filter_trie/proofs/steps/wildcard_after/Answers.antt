use Rattle.std.proofs.Common.{IsTrue, false, inl, inr}
use Rattle.filter_trie.proofs.StepLaws.{wild_multi, wild_single, wild_longer, wild_shared}
use Rattle.filter_trie.proofs.steps.wildcard_after.Goals as goal

pub returns-then-is_before-clause-covers : goal.returns-then-is_before-clause-covers
returns-then-is_before-clause-covers c = λ t wild after. inl (wild_multi c.args.rest.now t wild)

pub returns-then-is_before-2-clause-covers : goal.returns-then-is_before-2-clause-covers
returns-then-is_before-2-clause-covers c = λ t wild after.
    inl (wild_single c.args.rest.now t wild after (λ b. let h : IsTrue false = c.if-is_before.ensures.1 b in cc))

pub returns-then-is_before-3-clause-covers : goal.returns-then-is_before-3-clause-covers
returns-then-is_before-3-clause-covers c = λ t wild after.
    inl (wild_longer c.args.rest.now t wild after (λ b. let h : IsTrue false = c.if-is_before.ensures.1 b in cc) (λ b. let h : IsTrue false = c.if-is_before-2.ensures.1 b in cc))

pub returns-clause-covers : goal.returns-clause-covers
returns-clause-covers c = λ t wild after.
    inr (wild_shared c.args.rest.now t wild after
    (λ b. let h : IsTrue false = c.if-is_before.ensures.1 b in cc)
    (λ b. let h : IsTrue false = c.if-is_before-2.ensures.1 b in cc)
    (λ b. let h : IsTrue false = c.if-is_before-3.ensures.1 b in cc))
