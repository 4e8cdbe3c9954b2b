use Rattle.law_steps.proofs.KnowRuns.{knows_are_believed, knows_name_nodes}
use Rattle.law_steps.proofs.believing.knows_are_believed.Goals as goal

pub returns-clause-named : goal.returns-clause-named
returns-clause-named c = knows_name_nodes

pub returns-clause-believed : goal.returns-clause-believed
returns-clause-believed c = knows_are_believed
