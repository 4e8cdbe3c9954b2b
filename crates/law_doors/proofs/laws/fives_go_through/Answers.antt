use Rattle.law_doors.proofs.Fives.{fives_go_through}
use Rattle.law_doors.proofs.laws.fives_go_through.Goals as goal

pub returns : goal.returns
returns g c = fives_go_through g.H.Handler.handles g.H.BridgeHandler.hears g.H.Handler.settles
