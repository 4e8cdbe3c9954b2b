use Rattle.std.proofs.Common.{sym, ap, ◌∙◌}
use Rattle.std.specs.FinSet as set
use Rattle.causal_context.specs.Dots.{Dots}
use Rattle.causal_context.specs.Ranges.{covered}
use Rattle.causal_context.proofs.RangeSets.{contains-set_of}
use Rattle.causal_context.proofs.joining.Joining.had.Goals as goal

pub returns : goal.returns
returns c =
    rw c.deref.ensures.value at c.has.ensures
    ∙ (λ i. covered (record { node = c.node.ensures i; number = c.number.ensures.same i }) c.self.inside.ranges.items)
    ∙ sym (contains-set_of c.self.inside.ranges.items c.args.dot) ∙ ap (λ (p : Dots × Dots). set.contains p.0 c.args.dot) c.self.view_is
