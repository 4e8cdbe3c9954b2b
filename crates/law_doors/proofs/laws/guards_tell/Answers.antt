use Rattle.law_doors.proofs.GuardFollowing.{guards_follow}
use Rattle.law_doors.proofs.GuardStopping.{guards_stop}
use Rattle.law_doors.proofs.Guards.{guards_off, guards_tell}
use Rattle.law_doors.proofs.laws.guards_tell.Goals as goal

pub returns : goal.returns
returns g c = record {
  tells = guards_tell g.A.Access.rights g.H.Handler.handles g.H.BridgeHandler.hears g.H.Handler.settles;
  follow = guards_follow g.A.Access.rights;
  off = guards_off g.A.Access.rights;
  stop = guards_stop g.A.Access.rights g.H.Handler.handles g.H.BridgeHandler.hears g.H.Handler.settles g.H.Handler.refuses g.H.BridgeHandler.declines g.H.Handler.stops;
}
