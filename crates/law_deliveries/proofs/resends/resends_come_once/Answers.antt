use Rattle.law_deliveries.proofs.AgainLaws.{keeps_resends_once}
use Rattle.law_deliveries.proofs.resends.resends_come_once.Goals as goal

pub returns : goal.returns
returns c = keeps_resends_once
