use Rattle.law_steps.proofs.ReasonLaws.{offers_are_asked_for, offers_of_runs_are_asked_for}
use Rattle.law_steps.proofs.adding.offers_are_asked_for.Goals as goal

pub returns-clause-step : goal.returns-clause-step
returns-clause-step c = offers_are_asked_for

pub returns-clause-run : goal.returns-clause-run
returns-clause-run c = offers_of_runs_are_asked_for
