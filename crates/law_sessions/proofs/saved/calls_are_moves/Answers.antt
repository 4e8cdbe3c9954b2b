use Rattle.law_sessions.proofs.MoveLaws.{are-moves}
use Rattle.law_sessions.proofs.saved.calls_are_moves.Goals as goal

pub returns : goal.returns
returns c = are-moves c.calls_are_events.ensures
