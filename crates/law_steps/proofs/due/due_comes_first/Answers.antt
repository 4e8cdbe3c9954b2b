use Rattle.law_steps.proofs.DueLaws.{events_come_after_due, ticks_do_what_is_due}
use Rattle.law_steps.proofs.RunOuts.{run_outs_are_exact}
use Rattle.law_steps.proofs.due.due_comes_first.Goals as goal

pub returns-clause-exact : goal.returns-clause-exact
returns-clause-exact c = run_outs_are_exact

pub returns-clause-ticks : goal.returns-clause-ticks
returns-clause-ticks c = ticks_do_what_is_due

pub returns-clause-events : goal.returns-clause-events
returns-clause-events c = events_come_after_due
