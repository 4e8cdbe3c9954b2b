use Rattle.causal_context.proofs.SpellingLaws.{context_is}
use Rattle.causal_context.proofs.laws.read_as_spelled.Goals as goal

pub returns : goal.returns
returns c = context_is
