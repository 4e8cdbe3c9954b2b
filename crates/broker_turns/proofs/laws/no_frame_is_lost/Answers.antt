use Rattle.broker_turns.proofs.LinkOrder.{no_frame_is_lost}
use Rattle.broker_turns.proofs.laws.no_frame_is_lost.Goals as goal

pub returns : goal.returns
returns g c =
    no_frame_is_lost g.S.Sockets.accepts g.S.Readiness.watches g.S.Sockets.connects g.S.Sockets.reads g.S.Sockets.writes g.S.Readiness.finds g.H.Handler.handles g.H.BridgeHandler.hears g.H.Handler.settles
