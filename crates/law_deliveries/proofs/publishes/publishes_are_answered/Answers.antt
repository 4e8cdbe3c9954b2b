use Rattle.law_deliveries.proofs.AnswerLaws.{keeps-publishes}
use Rattle.law_deliveries.proofs.publishes.publishes_are_answered.Goals as goal

pub returns : goal.returns
returns c = keeps-publishes
