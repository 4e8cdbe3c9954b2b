use Rattle.law_serving.proofs.Opening.{opening_is_a_restart}
use Rattle.law_serving.proofs.laws.opening_is_a_restart.Goals as goal

pub returns : goal.returns
returns g c = opening_is_a_restart g.R.RowStore.is_open g.R.RowStore.content
