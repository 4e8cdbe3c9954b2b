use Rattle.law_deliveries.proofs.DueLaws.{keeps_due}
use Rattle.law_deliveries.proofs.wills.what_is_due_comes.Goals as goal

pub returns : goal.returns
returns c = keeps_due
