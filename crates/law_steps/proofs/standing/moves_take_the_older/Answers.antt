use Rattle.law_steps.proofs.StandingLaws.{moves_take_the_older}
use Rattle.law_steps.proofs.standing.moves_take_the_older.Goals as goal

pub returns : goal.returns
returns c = moves_take_the_older
