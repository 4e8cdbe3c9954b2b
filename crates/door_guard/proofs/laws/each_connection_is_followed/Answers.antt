use Rattle.door_guard.proofs.Following.{followed}
use Rattle.door_guard.proofs.laws.each_connection_is_followed.Goals as goal

pub returns : goal.returns
returns g c = followed g.H.Handler.handles g.H.BridgeHandler.hears g.H.Handler.settles g.A.Access.rights
