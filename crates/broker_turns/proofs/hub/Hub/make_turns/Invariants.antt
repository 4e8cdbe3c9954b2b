use Rattle.std.proofs.Common.{◌≡◌}
use Rattle.broker_turns.specs.Bridging.{near, place}
use Rattle.broker_turns.specs.Serving.{IsTurns}
use Rattle.broker_turns.specs.Turns.{IsTurn, site}
use Rattle.broker_turns.proofs.hub.Hub.make_turns.Given as goal

abbrev pub invariant-loop : goal.invariant-loop
invariant-loop g l =
    IsTurns g.C.Clock.tells
    (IsTurn g.S.Sockets.accepts g.S.Readiness.watches g.S.Sockets.connects g.S.Sockets.reads g.S.Sockets.writes g.S.Readiness.finds g.H.Handler.handles g.H.BridgeHandler.hears g.H.Handler.settles l.initial.self.setting)
    l.counter
    l.initial.clock (site (place l.initial.sockets (near l.initial.handler l.initial.self.clients.slab l.initial.self.dialled.items) l.initial.self.accepted) l.initial.self.ready l.initial.self.sought.items)
    l.clock (site (place l.sockets (near l.handler l.self.clients.slab l.self.dialled.items) l.self.accepted) l.self.ready l.self.sought.items)
    × (l.self.setting ≡ l.initial.self.setting)
