use Rattle.law_nodes.proofs.LifeLaws.{sessions_are_runs}
use Rattle.law_nodes.proofs.sessions.sessions_are_runs.Goals as goal

pub returns : goal.returns
returns c = sessions_are_runs
