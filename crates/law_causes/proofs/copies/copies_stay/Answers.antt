use Rattle.law_causes.proofs.CopyLaws.{copy_stays, sessions_of_rows_are_runs}
use Rattle.law_causes.proofs.copies.copies_stay.Goals as goal

pub returns-clause-rows : goal.returns-clause-rows
returns-clause-rows c = sessions_of_rows_are_runs

pub returns-clause-copy : goal.returns-clause-copy
returns-clause-copy c = copy_stays c.copies_go_by_the_rules.ensures
