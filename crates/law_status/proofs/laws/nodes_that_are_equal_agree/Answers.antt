use Rattle.law_status.proofs.Shown.{both_agree}
use Rattle.law_status.proofs.laws.nodes_that_are_equal_agree.Goals as goal

pub returns : goal.returns
returns c = both_agree
