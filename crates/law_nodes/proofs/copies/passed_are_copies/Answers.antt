use Rattle.law_nodes.proofs.AmidLaws.{passed_are_copies}
use Rattle.law_nodes.proofs.copies.passed_are_copies.Goals as goal

pub returns : goal.returns
returns c = passed_are_copies
