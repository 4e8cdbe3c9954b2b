use Rattle.law_deliveries.proofs.WillLaws.{keeps_wills}
use Rattle.law_deliveries.proofs.wills.wills_are_published_once.Goals as goal

pub returns : goal.returns
returns c = keeps_wills
