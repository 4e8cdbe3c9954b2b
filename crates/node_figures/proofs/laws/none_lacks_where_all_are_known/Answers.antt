use Rattle.node_figures.proofs.Counting.{none_lacks}
use Rattle.node_figures.proofs.laws.none_lacks_where_all_are_known.Goals as goal

pub returns : goal.returns
returns c = none_lacks
