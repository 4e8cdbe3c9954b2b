use Rattle.replica_bytes.proofs.Ordered.{by_bytes}
use Rattle.replica_bytes.proofs.laws.equal_stamps_go_by_bytes.Goals as goal

pub returns : goal.returns
returns c = by_bytes
