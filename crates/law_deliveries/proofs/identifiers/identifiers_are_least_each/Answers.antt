use Rattle.law_deliveries.proofs.NumberLaws.{keeps_least_each}
use Rattle.law_deliveries.proofs.identifiers.identifiers_are_least_each.Goals as goal

pub returns : goal.returns
returns c = keeps_least_each
