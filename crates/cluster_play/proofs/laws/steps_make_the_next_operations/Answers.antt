use Rattle.cluster_play.proofs.Catching.{operations_of_a_step}
use Rattle.cluster_play.proofs.laws.steps_make_the_next_operations.Goals as goal

pub returns : goal.returns
returns c = operations_of_a_step
