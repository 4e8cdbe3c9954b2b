use Rattle.law_nodes.proofs.LifeLaws.{moves_are_lives}
use Rattle.law_nodes.proofs.sessions.moves_are_lives.Goals as goal

pub returns : goal.returns
returns c = moves_are_lives
