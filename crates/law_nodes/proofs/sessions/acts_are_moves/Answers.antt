use Rattle.law_nodes.proofs.MoveLaws.{acts_are_moves}
use Rattle.law_nodes.proofs.sessions.acts_are_moves.Goals as goal

pub returns : goal.returns
returns c = acts_are_moves
