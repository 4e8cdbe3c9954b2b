use Rattle.status_texts.proofs.Green.{green_is_caught_up}
use Rattle.status_texts.proofs.laws.green_cluster_is_caught_up.Goals as goal

pub returns : goal.returns
returns c = green_is_caught_up
