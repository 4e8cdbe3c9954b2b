use Rattle.law_deliveries.proofs.AnswerLaws.{keeps-pubrels}
use Rattle.law_deliveries.proofs.publishes.pubrels_are_answered.Goals as goal

pub returns : goal.returns
returns c = keeps-pubrels
