use Rattle.door_limits.proofs.Bounding.{limits_hold}
use Rattle.door_limits.proofs.laws.limits_hold.Goals as goal

pub returns : goal.returns
returns g c = limits_hold g.H.Handler.handles g.H.BridgeHandler.hears g.H.Handler.settles
