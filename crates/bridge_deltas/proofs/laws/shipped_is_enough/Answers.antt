use Rattle.bridge_deltas.proofs.Shipping.{shipped_enough, shipped_one}
use Rattle.bridge_deltas.proofs.laws.shipped_is_enough.Goals as goal

pub returns-clause-one : goal.returns-clause-one
returns-clause-one c = shipped_one

pub returns-clause-enough : goal.returns-clause-enough
returns-clause-enough c = shipped_enough
