use Rattle.std.proofs.Common.{◌∙◌}
use Rattle.causal_context.proofs.SpellingLaws.{ranges_same}
use Rattle.causal_context.proofs.context.Context.ranges.Goals as goal

pub returns-clause-same : goal.returns-clause-same
returns-clause-same c = c.deref.ensures.value ∙ ranges_same c.self.inside.ranges.items c.args.self.now c.self.invariant c.self.view_is
