use Rattle.std.proofs.Common.{sym}
use Rattle.causal_context.proofs.OneSpelling.{one_spelling}
use Rattle.causal_context.proofs.RangeSets.{below_from_same}
use Rattle.causal_context.proofs.laws.spelled_once.Goals as goal

pub returns : goal.returns
returns c = λ a b s t same. one_spelling a b s t (below_from_same a b same) (below_from_same b a (sym same))
