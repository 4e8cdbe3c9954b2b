use Rattle.law_sessions.proofs.RemovedLaws.{removals-leave}
use Rattle.law_sessions.proofs.saved.removals_leave_none.Goals as goal

pub returns : goal.returns
returns c = removals-leave c.calls_follow.ensures
