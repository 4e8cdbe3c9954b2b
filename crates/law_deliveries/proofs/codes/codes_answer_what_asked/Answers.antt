use Rattle.law_deliveries.proofs.CodeLaws.{keeps_answers}
use Rattle.law_deliveries.proofs.codes.codes_answer_what_asked.Goals as goal

pub returns : goal.returns
returns c = keeps_answers
