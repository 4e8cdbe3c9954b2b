use Rattle.std.proofs.Common.{arith}
use Rattle.causal_context.proofs.SpellingLaws.{held, ranges_is}
use Rattle.causal_context.proofs.context.Context.at.Goals as goal

pub invariant_of-result : goal.invariant_of-result
invariant_of-result c = held c.in_ok-ranges.ranges.items
    (ranges_is.takes c.args.bytes.now (c.in_ok-ranges.ranges.items, c.in_ok-ranges.rest.now) (λ i. omega (arith, c.type_inv.bytes i)) c.in_ok-ranges.ensures.exact).1
