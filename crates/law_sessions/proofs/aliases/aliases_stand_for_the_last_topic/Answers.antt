use Rattle.law_sessions.proofs.ReplyLaws.{keeps_topics}
use Rattle.law_sessions.proofs.aliases.aliases_stand_for_the_last_topic.Goals as goal

pub returns : goal.returns
returns c = keeps_topics
