use Rattle.law_doors.proofs.Following.{levels_follow}
use Rattle.law_doors.proofs.Levels.{levels_off, levels_tell}
use Rattle.law_doors.proofs.laws.levels_tell.Goals as goal

pub returns : goal.returns
returns g c = record { tells = levels_tell g.H.Handler.handles g.H.BridgeHandler.hears g.H.Handler.settles; follow = levels_follow; off = levels_off }
