use Rattle.law_causes.proofs.ClearedLaws.{cleared_stays}
use Rattle.law_causes.proofs.cleared.cleared_topics_stay.Goals as goal

pub returns : goal.returns
returns c = cleared_stays
