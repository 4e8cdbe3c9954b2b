use Rattle.law_serving.proofs.Turning.{serving_is_a_trace}
use Rattle.law_serving.proofs.turns.serving_is_a_trace.Goals as goal

pub returns : goal.returns
returns g c =
    serving_is_a_trace g.S.Sockets.accepts g.S.Readiness.watches g.S.Sockets.connects g.S.Sockets.reads g.S.Sockets.writes g.S.Readiness.finds g.H.Handler.handles g.H.BridgeHandler.hears g.H.Handler.settles g.row.C.Denot g.C.Clock.tells
