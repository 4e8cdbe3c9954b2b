use Rattle.std.proofs.Common.{IsTrue, false, refl, ap}
use Rattle.std.specs.Option.{option_copied}
use Rattle.filter_trie.specs.Search.Steps.{step_text, some_step}
use Rattle.filter_trie.proofs.StepLaws.{keep_own, take_wild}
use Rattle.filter_trie.proofs.steps.lesser.Goals as goal

pub returns-then-is_before_step-clause-from : goal.returns-then-is_before_step-clause-from
returns-then-is_before_step-clause-from c =
    take_wild (some_step c.args.own) (option_copied c.args.wild) (step_text c.in-Some-own.step) c.in-Some.level.now
    (ap some_step c.in-Some-own.is) (ap option_copied c.in-Some.is) (c.if-is_before_step.ensures.0 refl)

pub returns-clause-from : goal.returns-clause-from
returns-clause-from c =
    keep_own (some_step c.args.own) (option_copied c.args.wild) (step_text c.in-Some-own.step) c.in-Some.level.now
    (ap some_step c.in-Some-own.is) (ap option_copied c.in-Some.is) (λ b. let h : IsTrue false = c.if-is_before_step.ensures.1 b in cc)
