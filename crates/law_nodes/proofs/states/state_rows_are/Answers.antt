use Rattle.law_nodes.proofs.StateRows.{rows_are}
use Rattle.law_nodes.proofs.states.state_rows_are.Goals as goal

pub returns : goal.returns
returns c = rows_are
