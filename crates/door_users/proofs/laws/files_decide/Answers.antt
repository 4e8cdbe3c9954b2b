use Rattle.door_users.proofs.Deciding.{decide}
use Rattle.door_users.proofs.laws.files_decide.Goals as goal

pub returns : goal.returns
returns c = decide
