use Rattle.broker_holds.proofs.Strangers.{watched-came}
use Rattle.broker_holds.proofs.links.strangers_are_not_watched.Goals as goal

pub returns : goal.returns
returns g c = watched-came g.S.Origins.comes_from g.S.Readiness.watches
