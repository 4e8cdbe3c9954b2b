use Rattle.broker_turns.proofs.Rooming.{everyone_is_told}
use Rattle.broker_turns.proofs.laws.everyone_is_told.Goals as goal

pub returns : goal.returns
returns g c =
    everyone_is_told g.S.Sockets.accepts g.S.Readiness.watches g.S.Sockets.connects g.S.Sockets.reads g.S.Sockets.writes g.S.Readiness.finds g.H.Handler.handles g.H.BridgeHandler.hears g.H.Handler.settles
