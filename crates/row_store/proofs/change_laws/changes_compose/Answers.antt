use Rattle.row_store.proofs.Leaving.{second_is_last, lead_on, lead_on_within, begin_on}
use Rattle.row_store.proofs.change_laws.changes_compose.Goals as goal

pub returns-clause-left : goal.returns-clause-left
returns-clause-left c = second_is_last

pub returns-clause-lead : goal.returns-clause-lead
returns-clause-lead c = lead_on

pub returns-clause-within : goal.returns-clause-within
returns-clause-within c = lead_on_within

pub returns-clause-begin : goal.returns-clause-begin
returns-clause-begin c = begin_on
