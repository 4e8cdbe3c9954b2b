use Rattle.broker_turns.proofs.Handling.{room_follows_opened}
use Rattle.broker_turns.proofs.laws.room_follows_opened.Goals as goal

pub returns : goal.returns
returns g c =
    room_follows_opened g.H.Handler.handles g.H.BridgeHandler.hears g.H.Handler.settles g.S.Sockets.accepts g.S.Readiness.watches g.S.Sockets.connects g.S.Sockets.reads g.S.Sockets.writes g.S.Readiness.finds
