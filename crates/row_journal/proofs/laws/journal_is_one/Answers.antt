use Rattle.row_journal.proofs.JournalLaws.{turns_once}
use Rattle.row_journal.proofs.laws.journal_is_one.Goals as goal

pub returns : goal.returns
returns c = λ d these those few less a b. turns_once d these those few less a b
