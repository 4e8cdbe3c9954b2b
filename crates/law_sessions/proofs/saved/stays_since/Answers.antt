use Rattle.law_sessions.proofs.SinceLaws.{stays}
use Rattle.law_sessions.proofs.saved.stays_since.Goals as goal

pub returns : goal.returns
returns c = stays c.calls_follow.ensures
