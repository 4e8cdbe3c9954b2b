use Rattle.node_keeper.proofs.Batching.{batch_grows, batch_is_steps, batch_keeps}
use Rattle.node_keeper.proofs.batch_laws.batch_is_steps.Goals as goal

pub returns-clause-grows : goal.returns-clause-grows
returns-clause-grows c = batch_grows

pub returns-clause-steps : goal.returns-clause-steps
returns-clause-steps c = batch_is_steps

pub returns-clause-keeps : goal.returns-clause-keeps
returns-clause-keeps c = batch_keeps
