use Rattle.law_steps.proofs.Having.{sessions_are_at_home}
use Rattle.law_steps.proofs.SessionRuns.{sessions_stay_at_home, sessions_last_at_home, sessions_begin_at_home}
use Rattle.law_steps.proofs.sessions.sessions_are_at_home.Goals as goal

pub returns-clause-step : goal.returns-clause-step
returns-clause-step c = sessions_are_at_home

pub returns-clause-run : goal.returns-clause-run
returns-clause-run c = sessions_stay_at_home

pub returns-clause-begins : goal.returns-clause-begins
returns-clause-begins c = sessions_begin_at_home

pub returns-clause-last : goal.returns-clause-last
returns-clause-last c = sessions_last_at_home
