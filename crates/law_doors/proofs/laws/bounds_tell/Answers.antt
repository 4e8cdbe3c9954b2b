use Rattle.law_doors.proofs.Bounds.{bounds_off, bounds_tell}
use Rattle.law_doors.proofs.laws.bounds_tell.Goals as goal

pub returns : goal.returns
returns g c = record { tells = bounds_tell g.H.Handler.handles g.H.BridgeHandler.hears g.H.Handler.settles; off = bounds_off }
