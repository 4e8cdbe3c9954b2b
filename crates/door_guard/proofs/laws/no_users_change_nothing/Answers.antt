use Rattle.door_guard.proofs.Off.{changes_nothing, no_faults}
use Rattle.door_guard.proofs.laws.no_users_change_nothing.Goals as goal

pub returns : goal.returns
returns g c = record {
  calls = changes_nothing g.H.Handler.handles g.H.BridgeHandler.hears g.H.Handler.settles g.A.Access.rights;
  faults = no_faults g.H.Handler.handles g.H.Handler.refuses g.H.BridgeHandler.declines g.H.Handler.stops;
}
