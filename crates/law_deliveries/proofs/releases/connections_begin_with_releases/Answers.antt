use Rattle.law_deliveries.proofs.BeginningLaws.{keeps_releases_told}
use Rattle.law_deliveries.proofs.releases.connections_begin_with_releases.Goals as goal

pub returns : goal.returns
returns c = keeps_releases_told
