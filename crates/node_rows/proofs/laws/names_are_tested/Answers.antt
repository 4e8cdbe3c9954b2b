use Rattle.node_rows.proofs.Naming.{dots_tested, state_tested}
use Rattle.node_rows.proofs.laws.names_are_tested.Goals as goal

pub returns-clause-dots : goal.returns-clause-dots
returns-clause-dots c = dots_tested

pub returns-clause-states : goal.returns-clause-states
returns-clause-states c = state_tested
