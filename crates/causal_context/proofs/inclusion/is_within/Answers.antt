use Rattle.std.proofs.Common.{◌≡◌, ◌-◌, arith, get_or, true, false, subst}
use Rattle.causal_context.specs.declared.ranges.Range.{Range}
use Rattle.causal_context.specs.RangeSteps.{IsStarted}
use Rattle.causal_context.proofs.RangeLemmas.{read_at}
use Rattle.causal_context.proofs.Within.{none_within, within, lies_there}
use Rattle.causal_context.proofs.inclusion.is_within.Goals as goal

abbrev zero_range : Range
zero_range = record { node = 0; first = 0; last = 0 }

never : false ≡ true → ⊥
never e = cc

pub returns-then-count-eq0 : goal.returns-then-count-eq0
returns-then-count-eq0 c =
    let none : c.started-count.result ≡ 0 = omega arith in
    (λ t. absurd (never t), λ below. absurd (none_within c.args.range c.args.others.now c.requires.fine (subst (IsStarted c.args.others.now (record { node = c.args.range.node; number = c.args.range.first })) none c.started-count.ensures) below))

pub returns : goal.returns
returns c =
    let others = c.args.others.now in
    let i = c.started-count.result in
    let at = read_at others (i - 1) zero_range (omega (arith, c.started-count.ensures.in_range)) in (
      λ t. within c.args.range others i (get_or others (i - 1) zero_range) c.requires.fine c.requires.others c.started-count.ensures (omega arith) at (c.lies_in.ensures.0 t),
      λ below. c.lies_in.ensures.1 (lies_there c.args.range others i (get_or others (i - 1) zero_range) c.requires.fine c.requires.others c.started-count.ensures (omega arith) at below),
    )
