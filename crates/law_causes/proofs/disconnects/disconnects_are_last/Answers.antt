use Rattle.law_causes.proofs.DisconnectLaws.{disconnects_are_last, disconnects_of_runs_are_last}
use Rattle.law_causes.proofs.disconnects.disconnects_are_last.Goals as goal

pub returns-clause-step : goal.returns-clause-step
returns-clause-step c = disconnects_are_last

pub returns-clause-run : goal.returns-clause-run
returns-clause-run c = disconnects_of_runs_are_last
