use Rattle.law_steps.proofs.ReasonLaws.{sessions_finish_for_reasons, sessions_of_runs_finish_for_reasons}
use Rattle.law_steps.proofs.ending.sessions_finish_for_reasons.Goals as goal

pub returns-clause-step : goal.returns-clause-step
returns-clause-step c = sessions_finish_for_reasons

pub returns-clause-run : goal.returns-clause-run
returns-clause-run c = sessions_of_runs_finish_for_reasons
