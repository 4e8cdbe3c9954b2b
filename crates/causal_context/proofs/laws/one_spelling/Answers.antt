use Rattle.causal_context.proofs.SpellingLaws.{one_spelling_each}
use Rattle.causal_context.proofs.laws.one_spelling.Goals as goal

pub returns : goal.returns
returns c = one_spelling_each
