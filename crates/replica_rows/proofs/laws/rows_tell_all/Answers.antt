use Rattle.replica_rows.proofs.OneStore.{one_store}
use Rattle.replica_rows.proofs.laws.rows_tell_all.Goals as goal

pub returns : goal.returns
returns c = one_store
