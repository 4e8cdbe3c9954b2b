use Rattle.law_serving.proofs.Reaching.{served_is_reached}
use Rattle.law_serving.proofs.laws.served_is_reached.Goals as goal

pub returns : goal.returns
returns g c = served_is_reached g.R.RowStore.is_open g.R.RowStore.content
