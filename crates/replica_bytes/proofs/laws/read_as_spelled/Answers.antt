use Rattle.replica_bytes.proofs.Wholes.{state_is}
use Rattle.replica_bytes.proofs.laws.read_as_spelled.Goals as goal

pub returns : goal.returns
returns c = state_is
