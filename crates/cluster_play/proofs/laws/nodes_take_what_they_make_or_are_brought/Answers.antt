use Rattle.cluster_play.proofs.Taking.{takes_what_is_brought}
use Rattle.cluster_play.proofs.laws.nodes_take_what_they_make_or_are_brought.Goals as goal

pub returns : goal.returns
returns c = takes_what_is_brought
