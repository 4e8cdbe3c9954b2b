use Rattle.law_steps.proofs.KnowRuns.{hellos_are_believed, hellos_name_nodes}
use Rattle.law_steps.proofs.believing.hellos_are_believed.Goals as goal

pub returns-clause-named : goal.returns-clause-named
returns-clause-named c = hellos_name_nodes

pub returns-clause-believed : goal.returns-clause-believed
returns-clause-believed c = hellos_are_believed
