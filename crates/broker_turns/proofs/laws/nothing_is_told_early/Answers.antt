use Rattle.broker_turns.proofs.Settling.{nothing_is_told_early}
use Rattle.broker_turns.proofs.laws.nothing_is_told_early.Goals as goal

pub returns : goal.returns
returns g c =
    nothing_is_told_early g.S.Sockets.accepts g.S.Readiness.watches g.S.Sockets.connects g.S.Sockets.reads g.S.Sockets.writes g.S.Readiness.finds g.H.Handler.handles g.H.BridgeHandler.hears g.H.Handler.settles
