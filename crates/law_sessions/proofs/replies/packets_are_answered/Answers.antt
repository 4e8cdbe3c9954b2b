use Rattle.law_sessions.proofs.ReplyLaws.{keeps_replies, keeps_unheard}
use Rattle.law_sessions.proofs.replies.packets_are_answered.Goals as goal

pub returns-clause-connected : goal.returns-clause-connected
returns-clause-connected c = keeps_replies

pub returns-clause-unheard : goal.returns-clause-unheard
returns-clause-unheard c = keeps_unheard
