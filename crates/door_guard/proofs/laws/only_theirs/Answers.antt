use Rattle.door_guard.proofs.Theirs.{only_theirs}
use Rattle.door_guard.proofs.laws.only_theirs.Goals as goal

pub returns : goal.returns
returns c = only_theirs
