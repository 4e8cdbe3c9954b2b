use Rattle.law_sessions.proofs.ReopenedLaws.{reopens}
use Rattle.law_sessions.proofs.reopened.reopens_as_lost.Goals as goal

pub returns : goal.returns
returns c = reopens
