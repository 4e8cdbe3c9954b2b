use Rattle.law_serving.proofs.ServedRunning.{crash_is_run, turn_is_run}
use Rattle.law_serving.proofs.served.turns_are_runs.Goals as goal

pub returns-clause-turns : goal.returns-clause-turns
returns-clause-turns c = turn_is_run

pub returns-clause-crashes : goal.returns-clause-crashes
returns-clause-crashes c = crash_is_run
