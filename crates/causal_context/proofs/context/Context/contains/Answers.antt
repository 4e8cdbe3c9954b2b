use Rattle.std.proofs.Common.{ap, sym, ◌∙◌}
use Rattle.std.specs.FinSet as set
use Rattle.causal_context.specs.Ranges.{covered}
use Rattle.causal_context.proofs.RangeSets.{contains-set_of}
use Rattle.causal_context.proofs.context.Context.contains.Goals as goal

pub returns : goal.returns
returns c =
    c.has.ensures ∙ (λ i. covered (record { node = c.node.ensures i; number = c.number.ensures.same i }) (c.deref.ensures.value i))
    ∙ sym (contains-set_of c.self.inside.ranges.items c.args.dot) ∙ ap (λ s. set.contains s c.args.dot) c.self.view_is
