use Rattle.law_sessions.proofs.ElseLaws.{keeps_nothing_else}
use Rattle.law_sessions.proofs.quiet.nothing_else_is_sent.Goals as goal

pub returns : goal.returns
returns c = keeps_nothing_else
