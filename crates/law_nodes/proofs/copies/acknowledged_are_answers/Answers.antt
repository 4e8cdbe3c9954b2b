use Rattle.law_nodes.proofs.AmidLaws.{acknowledged_are_answers}
use Rattle.law_nodes.proofs.copies.acknowledged_are_answers.Goals as goal

pub returns : goal.returns
returns c = acknowledged_are_answers
