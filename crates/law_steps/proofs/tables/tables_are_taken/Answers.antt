use Rattle.law_steps.proofs.TableLaws.{tables_are_taken, tables_wait, starts_send_away}
use Rattle.law_steps.proofs.tables.tables_are_taken.Goals as goal

pub returns-clause-taken : goal.returns-clause-taken
returns-clause-taken c = tables_are_taken

pub returns-clause-waits : goal.returns-clause-waits
returns-clause-waits c = tables_wait

pub returns-clause-starts : goal.returns-clause-starts
returns-clause-starts c = starts_send_away
