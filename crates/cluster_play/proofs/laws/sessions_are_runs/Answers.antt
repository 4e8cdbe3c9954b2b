use Rattle.cluster_play.proofs.Lives.{at_moves, sessions_are_runs, sessions_are_runs_amid}
use Rattle.cluster_play.proofs.laws.sessions_are_runs.Goals as goal

pub returns : goal.returns
returns c = record { moves = at_moves; sessions = sessions_are_runs; amid = sessions_are_runs_amid }
