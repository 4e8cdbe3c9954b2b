use Rattle.law_sessions.proofs.SilenceLaws.{keeps_silence}
use Rattle.law_sessions.proofs.quiet.closed_sessions_are_silent.Goals as goal

pub returns : goal.returns
returns c = keeps_silence
