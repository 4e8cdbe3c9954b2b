use Rattle.replica_store.proofs.Views.{some_is}
use Rattle.replica_store.proofs.laws.state_of_some.Goals as goal

pub returns : goal.returns
returns c = some_is
