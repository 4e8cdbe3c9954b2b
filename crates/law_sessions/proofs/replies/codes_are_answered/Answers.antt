use Rattle.law_sessions.proofs.ReplyLaws.{keeps_codes}
use Rattle.law_sessions.proofs.replies.codes_are_answered.Goals as goal

pub returns : goal.returns
returns c = keeps_codes
