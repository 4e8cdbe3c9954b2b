use Rattle.door_bounds.proofs.Ordering.{all_go_on}
use Rattle.door_bounds.proofs.laws.all_go_on.Goals as goal

pub returns : goal.returns
returns c = all_go_on
