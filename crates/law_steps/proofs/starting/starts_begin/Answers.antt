use Rattle.law_steps.proofs.DueLaws.{all_wait_for_start, starts_begin, starts_come_once}
use Rattle.law_steps.proofs.starting.starts_begin.Goals as goal

pub returns-clause-waits : goal.returns-clause-waits
returns-clause-waits c = all_wait_for_start

pub returns-clause-begins : goal.returns-clause-begins
returns-clause-begins c = starts_begin

pub returns-clause-once : goal.returns-clause-once
returns-clause-once c = starts_come_once
