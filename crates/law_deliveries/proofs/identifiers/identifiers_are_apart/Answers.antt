use Rattle.law_deliveries.proofs.ApartLaws.{keeps_apart}
use Rattle.law_deliveries.proofs.identifiers.identifiers_are_apart.Goals as goal

pub returns : goal.returns
returns c = keeps_apart
