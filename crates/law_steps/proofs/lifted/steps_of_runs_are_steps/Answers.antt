use Rattle.law_steps.proofs.LiftedLaws.{first_connects_of_runs_are_answered, frames_of_runs_are_of_events, steps_of_runs_are_steps}
use Rattle.law_steps.proofs.lifted.steps_of_runs_are_steps.Goals as goal

pub returns-clause-steps : goal.returns-clause-steps
returns-clause-steps c = steps_of_runs_are_steps

pub returns-clause-frames : goal.returns-clause-frames
returns-clause-frames c = frames_of_runs_are_of_events

pub returns-clause-connects : goal.returns-clause-connects
returns-clause-connects c = first_connects_of_runs_are_answered
