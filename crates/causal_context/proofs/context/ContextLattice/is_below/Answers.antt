use Rattle.causal_context.proofs.RangeSets.{subset-below}
use Rattle.causal_context.proofs.context.ContextLattice.is_below.Goals as goal

pub returns : goal.returns
returns c =
    let sets = subset-below c.self.inside.ranges.items c.other.inside.ranges.items c.args.self.now c.args.other.now c.self.view_is c.other.view_is in
    let test = rw (c.deref.ensures.value, c.deref-2.ensures.value) at c.are_below.ensures in
    (λ t. sets.0 (test.0 t), λ s. test.1 (sets.1 s))
