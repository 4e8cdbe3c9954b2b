use Rattle.std.proofs.Common.{◌-◌, arith, get_or, subst}
use Rattle.std.proofs.lemmas.List.{get_or_default}
use Rattle.causal_context.specs.declared.ranges.Range.{Range}
use Rattle.causal_context.specs.RangeSteps.{IsStarted}
use Rattle.causal_context.proofs.Greatest.{last_none, last_found, last_of_another}
use Rattle.causal_context.proofs.ranges.last_of.Goals as goal

pub returns-then-count-eq0 : goal.returns-then-count-eq0
returns-then-count-eq0 c = last_none c.args.ranges.now c.args.node 18446744073709551615 c.requires (subst (IsStarted c.args.ranges.now _) c.if-count-eq0.true c.started-count.ensures) (omega arith)

pub returns-then-range-node : goal.returns-then-range-node
returns-then-range-node c =
    let zero_range : Range = record { node = 0; first = 0; last = 0 } in
    let ranges = c.args.ranges.now in
    let i = c.started-count.result - 1 in
    let r = get_or ranges i zero_range in
    last_found ranges c.args.node 18446744073709551615 i r c.requires (subst (IsStarted ranges _) {x = c.started-count.result} (omega arith) c.started-count.ensures) (omega arith)
    (get_or_default ranges i zero_range r (omega (arith, c.started-count.ensures.in_range))) c.if-range-node.true

pub returns : goal.returns
returns c =
    let zero_range : Range = record { node = 0; first = 0; last = 0 } in
    let ranges = c.args.ranges.now in
    let i = c.started-count.result - 1 in
    let r = get_or ranges i zero_range in
    last_of_another ranges c.args.node 18446744073709551615 i r c.requires (subst (IsStarted ranges _) {x = c.started-count.result} (omega arith) c.started-count.ensures) (omega arith)
    (get_or_default ranges i zero_range r (omega (arith, c.started-count.ensures.in_range))) c.if-range-node.false
