use Rattle.law_deliveries.proofs.ReleasingLaws.{keeps_releases_held}
use Rattle.law_deliveries.proofs.releases.releases_are_of_exchanges.Goals as goal

pub returns : goal.returns
returns c = keeps_releases_held
