use Rattle.bridge_deltas.proofs.Following.{more_follows, more_goes_on}
use Rattle.bridge_deltas.proofs.laws.more_follows.Goals as goal

pub returns-clause-follows : goal.returns-clause-follows
returns-clause-follows c = more_follows

pub returns-clause-goes_on : goal.returns-clause-goes_on
returns-clause-goes_on c = more_goes_on
