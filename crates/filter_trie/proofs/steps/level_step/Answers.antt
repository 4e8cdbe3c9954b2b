use Rattle.std.proofs.Common.{IsTrue, false, inl, inr}
use Rattle.filter_trie.proofs.StepLaws.{level_alone, level_longer, level_shared}
use Rattle.filter_trie.proofs.steps.level_step.Goals as goal

pub returns-then-is_before_step-clause-covers : goal.returns-then-is_before_step-clause-covers
returns-then-is_before_step-clause-covers c = λ t at after. inl (level_alone c.args.level.now c.args.rest.now t at)

pub returns-then-is_before_step-2-clause-covers : goal.returns-then-is_before_step-2-clause-covers
returns-then-is_before_step-2-clause-covers c = λ t at after.
    inl (level_longer c.args.level.now c.args.rest.now t at after (λ b. let h : IsTrue false = c.if-is_before_step.ensures.1 b in cc))

pub returns-clause-covers : goal.returns-clause-covers
returns-clause-covers c = λ t at after.
    inr (level_shared c.args.level.now c.args.rest.now t c.requires at after
    (λ b. let h : IsTrue false = c.if-is_before_step.ensures.1 b in cc)
    (λ b. let h : IsTrue false = c.if-is_before_step-2.ensures.1 b in cc))
