use Rattle.law_sessions.proofs.BusyLaws.{keeps_busy}
use Rattle.law_sessions.proofs.quota.nothing_is_held_back.Goals as goal

pub returns : goal.returns
returns c = keeps_busy
