use Rattle.replica_rows.proofs.OneStore.{one_reading}
use Rattle.replica_rows.proofs.laws.rows_have_one_reading.Goals as goal

pub returns : goal.returns
returns c = one_reading
