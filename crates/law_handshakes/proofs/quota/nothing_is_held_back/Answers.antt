use Rattle.law_handshakes.proofs.QuotaLaws.{keeps_busy}
use Rattle.law_handshakes.proofs.quota.nothing_is_held_back.Goals as goal

pub returns : goal.returns
returns c = keeps_busy
