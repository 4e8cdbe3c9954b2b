use Rattle.law_doors.proofs.Limits.{limits_off, limits_tell}
use Rattle.law_doors.proofs.laws.limits_tell.Goals as goal

pub returns : goal.returns
returns g c = record { tells = limits_tell g.H.Handler.handles g.H.BridgeHandler.hears g.H.Handler.settles; off = limits_off }
