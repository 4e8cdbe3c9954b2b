use Rattle.law_steps.proofs.DeterminingLaws.{steps_are_determined, stops_are_determined, nodes_are_determined}
use Rattle.law_steps.proofs.determined.steps_are_determined.Goals as goal

pub returns-clause-steps : goal.returns-clause-steps
returns-clause-steps c = steps_are_determined

pub returns-clause-stops : goal.returns-clause-stops
returns-clause-stops c = stops_are_determined

pub returns-clause-nodes : goal.returns-clause-nodes
returns-clause-nodes c = nodes_are_determined
