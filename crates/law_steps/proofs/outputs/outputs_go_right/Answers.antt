use Rattle.law_steps.proofs.OutputRuns.{outputs_go_right, sessions_stay_on, outputs_of_runs_go_right}
use Rattle.law_steps.proofs.outputs.outputs_go_right.Goals as goal

pub returns-clause-step : goal.returns-clause-step
returns-clause-step c = outputs_go_right

pub returns-clause-sessions : goal.returns-clause-sessions
returns-clause-sessions c = sessions_stay_on

pub returns-clause-run : goal.returns-clause-run
returns-clause-run c = outputs_of_runs_go_right
