use Rattle.causal_context.proofs.RangeSets.{set_of_none}
use Rattle.causal_context.proofs.context.Context.new.Goals as goal

pub returns : goal.returns
returns c = set_of_none _ c.new.ensures.items
