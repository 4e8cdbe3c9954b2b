use Rattle.law_deliveries.proofs.AnswerLaws.{keeps-requests}
use Rattle.law_deliveries.proofs.requests.requests_are_asked.Goals as goal

pub returns : goal.returns
returns c = keeps-requests
