use Rattle.law_deliveries.proofs.CopyLaws.{keeps_copies}
use Rattle.law_deliveries.proofs.copies.copies_go_by_the_rules.Goals as goal

pub returns : goal.returns
returns c = keeps_copies
