use Rattle.std.proofs.Common.{◌-◌, ◌<◌, arith, length, get_or, sym, subst, ◌∙◌}
use Rattle.std.proofs.lemmas.List.{get_or_default}
use Rattle.causal_context.specs.declared.ranges.Range.{Range}
use Rattle.causal_context.specs.RangeSteps.{IsStarted}
use Rattle.causal_context.proofs.Searching.{covered_none, covered_at}
use Rattle.causal_context.proofs.ranges.has.Goals as goal

pub returns-then-count-eq0 : goal.returns-then-count-eq0
returns-then-count-eq0 c = sym (covered_none c.args.ranges.now _ (subst (IsStarted c.args.ranges.now _) c.if-count-eq0.true c.started-count.ensures))

pub returns : goal.returns
returns c =
    let zero_range : Range = record { node = 0; first = 0; last = 0 } in
    let ranges = c.args.ranges.now in
    let i = c.started-count.result - 1 in
    let r = get_or ranges i zero_range in
    let there : i < length ranges = omega (arith, c.started-count.ensures.in_range) in
    c.is_in.ensures ∙ sym (covered_at ranges _ i r c.requires there (get_or_default ranges i zero_range r there)
    (c.started-count.ensures.by i zero_range (omega arith)) (λ k e above in_range. c.started-count.ensures.after k e (omega arith) in_range))
