use Rattle.law_handshakes.proofs.ReleaseLaws.{keeps_releases}
use Rattle.law_handshakes.proofs.releases.release_follows_receipt.Goals as goal

pub returns : goal.returns
returns c = keeps_releases
