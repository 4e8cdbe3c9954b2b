use Rattle.law_handshakes.proofs.ReleaseLaws.{keeps_releases_first}
use Rattle.law_handshakes.proofs.releases.releases_come_first.Goals as goal

pub returns : goal.returns
returns c = keeps_releases_first
