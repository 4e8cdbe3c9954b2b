use Rattle.replica_store.proofs.Deltas.{joined_is, order_free}
use Rattle.replica_store.proofs.laws.deltas_make_the_state.Goals as goal

pub returns : goal.returns
returns c = record { state = joined_is; order = λ O P own same. order_free O P same own }
