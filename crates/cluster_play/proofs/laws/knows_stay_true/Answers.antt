use Rattle.cluster_play.proofs.Keeping.{knows_what_is_taken}
use Rattle.cluster_play.proofs.laws.knows_stay_true.Goals as goal

pub returns : goal.returns
returns c = knows_what_is_taken
