use Rattle.cluster_play.proofs.Passing.{copies_as_taken}
use Rattle.cluster_play.proofs.laws.copies_are_made_as_taken.Goals as goal

pub returns : goal.returns
returns c = copies_as_taken
