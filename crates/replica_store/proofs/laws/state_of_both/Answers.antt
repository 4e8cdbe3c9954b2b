use Rattle.replica_store.proofs.Unions.{state_union}
use Rattle.replica_store.proofs.laws.state_of_both.Goals as goal

pub returns : goal.returns
returns c = state_union
