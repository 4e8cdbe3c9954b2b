use Rattle.session_rows.proofs.FollowLaws.{follows_then}
use Rattle.law_sessions.proofs.changes.calls_follow.Goals as goal

pub returns : goal.returns
returns c = follows_then
