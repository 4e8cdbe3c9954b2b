use Rattle.cluster_play.proofs.Lives.{keeps_its_table}
use Rattle.cluster_play.proofs.laws.nodes_keep_their_tables.Goals as goal

pub returns : goal.returns
returns c = keeps_its_table
