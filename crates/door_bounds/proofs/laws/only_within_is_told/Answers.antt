use Rattle.door_bounds.proofs.Following.{only_within}
use Rattle.door_bounds.proofs.laws.only_within_is_told.Goals as goal

pub returns : goal.returns
returns g c = only_within g.H.Handler.handles g.H.BridgeHandler.hears g.H.Handler.settles
