use Rattle.law_nodes.proofs.MoveLaws.{moves_lead_to_one}
use Rattle.law_nodes.proofs.sessions.moves_lead_to_one.Goals as goal

pub returns : goal.returns
returns c = moves_lead_to_one
