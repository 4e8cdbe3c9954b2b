use Rattle.law_nodes.proofs.LifeLaws.{fresh_is_lived}
use Rattle.law_nodes.proofs.sessions.fresh_is_lived.Goals as goal

pub returns : goal.returns
returns c = fresh_is_lived
