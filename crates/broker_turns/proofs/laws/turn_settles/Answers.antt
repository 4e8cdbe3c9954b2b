use Rattle.broker_turns.proofs.Handling.{turn_settles}
use Rattle.broker_turns.proofs.laws.turn_settles.Goals as goal

pub returns : goal.returns
returns g c =
    turn_settles g.H.Handler.handles g.H.BridgeHandler.hears g.H.Handler.settles g.S.Sockets.accepts g.S.Readiness.watches g.S.Sockets.connects g.S.Sockets.reads g.S.Sockets.writes g.S.Readiness.finds
