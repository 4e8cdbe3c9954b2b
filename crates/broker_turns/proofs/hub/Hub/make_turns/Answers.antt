use Rattle.std.proofs.Common.{◌∙◌, arith, subst}
use Rattle.broker_turns.specs.declared.setting.Setting.{Setting}
use Rattle.broker_turns.specs.Bridging.{near, place}
use Rattle.broker_turns.specs.Broken.{IsBrokenTurn}
use Rattle.broker_turns.specs.Serving.{IsStopped}
use Rattle.broker_turns.specs.Turns.{IsTurn, site}
use Rattle.broker_turns.proofs.Serving.{failed, turns-more}
use Rattle.broker_turns.proofs.hub.Hub.make_turns.Goals as goal

pub returns-in_err-turn-clause-fault : goal.returns-in_err-turn-clause-fault
returns-in_err-turn-clause-fault g c =
    let reached = site (place c.loop.sockets (near c.loop.handler c.loop.self.clients.slab c.loop.self.dialled.items) c.loop.self.accepted) c.loop.self.ready c.loop.self.sought.items in
    let Breaks : Setting g.row.L.Denot → Type 0 = λ setting. IsBrokenTurn g.S.Sockets.accepts g.S.Readiness.watches g.S.Sockets.connects g.S.Sockets.reads g.S.Sockets.writes g.H.Handler.handles g.H.BridgeHandler.hears g.H.Handler.settles g.H.Handler.refuses g.H.BridgeHandler.declines g.H.Handler.stops setting c.now-at.result reached c.turn.new.sockets c.turn.new.handler c.in_err-turn.field-0.0 in
    failed c.from_residual.result c.in_err-turn.field-0.0
    (λ fault. IsStopped g.C.Clock.tells
    (IsTurn g.S.Sockets.accepts g.S.Readiness.watches g.S.Sockets.connects g.S.Sockets.reads g.S.Sockets.writes g.S.Readiness.finds g.H.Handler.handles g.H.BridgeHandler.hears g.H.Handler.settles c.args.self.now.setting)
    (λ at old. IsBrokenTurn g.S.Sockets.accepts g.S.Readiness.watches g.S.Sockets.connects g.S.Sockets.reads g.S.Sockets.writes g.H.Handler.handles g.H.BridgeHandler.hears g.H.Handler.settles g.H.Handler.refuses g.H.BridgeHandler.declines g.H.Handler.stops c.args.self.now.setting at old c.turn.new.sockets c.turn.new.handler) c.args.turns
    c.args.clock.now (site (place c.args.sockets.now (near c.args.handler.now c.args.self.now.clients.slab c.args.self.now.dialled.items) c.args.self.now.accepted) c.args.self.now.ready c.args.self.now.sought.items)
    c.now-at.new.self fault)
    c.from_residual.ensures.1
    (record {
      made = c.loop.counter;
      fewer = omega (arith, c.loop-test.true);
      before = c.loop.clock;
      reached = reached;
      whole = c.loop.invariant.0;
      cut = record { at = c.now-at.result; told = c.now-at.ensures; is = subst Breaks c.loop.invariant.1 c.in_err-turn.ensures.fault };
    })

pub loop-preserved : goal.loop-preserved
loop-preserved g c =
    let Turn : Setting g.row.L.Denot → Type 0 = λ setting.
    IsTurn g.S.Sockets.accepts g.S.Readiness.watches g.S.Sockets.connects g.S.Sockets.reads g.S.Sockets.writes g.S.Readiness.finds g.H.Handler.handles g.H.BridgeHandler.hears g.H.Handler.settles setting c.now-at.result
    (site (place c.loop.sockets (near c.loop.handler c.loop.self.clients.slab c.loop.self.dialled.items) c.loop.self.accepted) c.loop.self.ready c.loop.self.sought.items)
    (site (place c.turn.new.sockets (near c.turn.new.handler c.turn.new.self.clients.slab c.turn.new.self.dialled.items) c.turn.new.self.accepted) c.turn.new.self.ready c.turn.new.self.sought.items) in (
      turns-more g.C.Clock.tells
          (IsTurn g.S.Sockets.accepts g.S.Readiness.watches g.S.Sockets.connects g.S.Sockets.reads g.S.Sockets.writes g.S.Readiness.finds g.H.Handler.handles g.H.BridgeHandler.hears g.H.Handler.settles c.args.self.now.setting)
          c.loop.counter c.now-at.result
          c.args.clock.now c.loop.clock c.now-at.new.self
          (site (place c.args.sockets.now (near c.args.handler.now c.args.self.now.clients.slab c.args.self.now.dialled.items) c.args.self.now.accepted) c.args.self.now.ready c.args.self.now.sought.items)
          (site (place c.loop.sockets (near c.loop.handler c.loop.self.clients.slab c.loop.self.dialled.items) c.loop.self.accepted) c.loop.self.ready c.loop.self.sought.items)
          (site (place c.turn.new.sockets (near c.turn.new.handler c.turn.new.self.clients.slab c.turn.new.self.dialled.items) c.turn.new.self.accepted) c.turn.new.self.ready c.turn.new.self.sought.items)
          c.loop.invariant.0 c.now-at.ensures (subst Turn c.loop.invariant.1 c.in_ok-turn.ensures.ok),
      c.in_ok-turn.ensures.setting ∙ c.loop.invariant.1,
    )
