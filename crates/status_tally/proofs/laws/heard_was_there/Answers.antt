use Rattle.status_tally.proofs.Heard.{heard_was_there}
use Rattle.status_tally.proofs.laws.heard_was_there.Goals as goal

pub returns : goal.returns
returns g c = heard_was_there g.H.Handler.handles g.H.BridgeHandler.hears g.H.Handler.settles
