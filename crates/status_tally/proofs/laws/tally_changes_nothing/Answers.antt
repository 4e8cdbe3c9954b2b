use Rattle.status_tally.proofs.Inside.{changes_nothing}
use Rattle.status_tally.proofs.laws.tally_changes_nothing.Goals as goal

pub returns : goal.returns
returns g c = changes_nothing g.H.Handler.handles g.H.BridgeHandler.hears g.H.Handler.settles
