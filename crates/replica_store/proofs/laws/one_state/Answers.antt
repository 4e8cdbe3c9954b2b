use Rattle.replica_store.proofs.Deltas.{one_state}
use Rattle.replica_store.proofs.laws.one_state.Goals as goal

pub returns : goal.returns
returns c = λ O P s t own same h k. one_state O P same own s t h k
