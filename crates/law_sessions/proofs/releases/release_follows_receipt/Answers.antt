use Rattle.law_sessions.proofs.ReleaseLaws.{keeps_releases}
use Rattle.law_sessions.proofs.releases.release_follows_receipt.Goals as goal

pub returns : goal.returns
returns c = keeps_releases
