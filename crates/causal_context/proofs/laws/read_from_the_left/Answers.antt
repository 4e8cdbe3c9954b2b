use Rattle.causal_context.proofs.SteadyContext.{context_steady}
use Rattle.causal_context.proofs.laws.read_from_the_left.Goals as goal

pub returns : goal.returns
returns c = context_steady
