use Rattle.door_bounds.proofs.Answers.{refusals_are_told}
use Rattle.door_bounds.proofs.laws.refusals_are_told.Goals as goal

pub returns : goal.returns
returns g c = refusals_are_told g.H.Handler.handles g.H.BridgeHandler.hears g.H.Handler.settles
