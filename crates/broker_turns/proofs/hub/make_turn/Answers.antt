use Rattle.std.proofs.Common.{refl}
use Rattle.broker_turns.specs.Bridging.{near, place, reach}
use Rattle.std.proofs.Common.{inl, inr}
use Rattle.broker_turns.specs.declared.turn.TurnFault.TheVariants.{NoMemory}
use Rattle.broker_turns.specs.Bridging.{search}
use Rattle.broker_turns.specs.Broken.{IsBrokenTurn}
use Rattle.broker_turns.specs.Connections.{world}
use Rattle.broker_turns.specs.Turns.{site}
use Rattle.broker_turns.proofs.Serving.{failed}
use Rattle.broker_turns.proofs.hub.make_turn.Goals as goal

pub returns-clause-ok : goal.returns-clause-ok
returns-clause-ok g c = record {
  more = c.in_ok-more.more;
  taken = place c.take_in.new.sockets (near c.take_in.new.handler c.take_in.new.clients.slab c.take_in.new.dialled) c.take_in.new.accepted;
  takes_in = c.in_ok-more.ensures.ok;
  settled = reach c.decide.new.sockets (near c.decide.new.handler c.decide.new.clients.slab c.decide.new.dialled);
  decides = c.in_ok-decide.ensures.ok;
  given = reach c.give_out.new.sockets (near c.give_out.new.handler c.give_out.new.clients.slab c.give_out.new.dialled);
  gives_out = c.in_ok-give_out.ensures.ok;
  looks = c.in_ok-ready.ensures;
  near = refl;
  accepted = refl;
}

pub returns-in_err-more-clause-fault : goal.returns-in_err-more-clause-fault
returns-in_err-more-clause-fault g c =
    failed c.from_residual.result c.in_err-more.field-0.0
    (λ fault. IsBrokenTurn g.S.Sockets.accepts g.S.Readiness.watches g.S.Sockets.connects g.S.Sockets.reads g.S.Sockets.writes g.H.Handler.handles g.H.BridgeHandler.hears g.H.Handler.settles g.H.Handler.refuses g.H.BridgeHandler.declines g.H.Handler.stops c.args.setting.now c.args.at
    (site (place c.args.sockets.now (near c.args.handler.now c.args.clients.now.slab c.args.dialled.now) c.args.accepted.now) c.args.ready.now c.args.sought.now) c.take_in.new.sockets c.take_in.new.handler fault)
    c.from_residual.ensures.1 (inl c.in_err-more.ensures.fault)

pub returns-in_err-decide-clause-fault : goal.returns-in_err-decide-clause-fault
returns-in_err-decide-clause-fault g c =
    failed c.from_residual-in_err-decide.result c.in_err-decide.field-0.0
    (λ fault. IsBrokenTurn g.S.Sockets.accepts g.S.Readiness.watches g.S.Sockets.connects g.S.Sockets.reads g.S.Sockets.writes g.H.Handler.handles g.H.BridgeHandler.hears g.H.Handler.settles g.H.Handler.refuses g.H.BridgeHandler.declines g.H.Handler.stops c.args.setting.now c.args.at
    (site (place c.args.sockets.now (near c.args.handler.now c.args.clients.now.slab c.args.dialled.now) c.args.accepted.now) c.args.ready.now c.args.sought.now) c.decide.new.sockets c.decide.new.handler fault)
    c.from_residual-in_err-decide.ensures.1
    (inr (inl (record {
      more = c.in_ok-more.more;
      taken = place c.take_in.new.sockets (near c.take_in.new.handler c.take_in.new.clients.slab c.take_in.new.dialled) c.take_in.new.accepted;
      takes_in = c.in_ok-more.ensures.ok;
      reached = search c.decide.new.sockets (near c.decide.new.handler c.decide.new.clients.slab c.decide.new.dialled) c.decide.new.sought;
      breaks = c.in_err-decide.ensures.fault;
      sockets = refl;
      ends = refl;
    })))

pub returns-in_err-give_out-clause-fault : goal.returns-in_err-give_out-clause-fault
returns-in_err-give_out-clause-fault g c =
    failed c.from_residual-in_err-give_out.result c.in_err-give_out.field-0.0
    (λ fault. IsBrokenTurn g.S.Sockets.accepts g.S.Readiness.watches g.S.Sockets.connects g.S.Sockets.reads g.S.Sockets.writes g.H.Handler.handles g.H.BridgeHandler.hears g.H.Handler.settles g.H.Handler.refuses g.H.BridgeHandler.declines g.H.Handler.stops c.args.setting.now c.args.at
    (site (place c.args.sockets.now (near c.args.handler.now c.args.clients.now.slab c.args.dialled.now) c.args.accepted.now) c.args.ready.now c.args.sought.now) c.give_out.new.sockets c.give_out.new.handler fault)
    c.from_residual-in_err-give_out.ensures.1
    (inr (inr (inl (record {
      more = c.in_ok-more.more;
      taken = place c.take_in.new.sockets (near c.take_in.new.handler c.take_in.new.clients.slab c.take_in.new.dialled) c.take_in.new.accepted;
      takes_in = c.in_ok-more.ensures.ok;
      settled = reach c.decide.new.sockets (near c.decide.new.handler c.decide.new.clients.slab c.decide.new.dialled);
      sought = c.decide.new.sought;
      decides = c.in_ok-decide.ensures.ok;
      gives_out = record { reached = world c.give_out.new.sockets c.give_out.new.handler c.give_out.new.clients.slab; breaks = c.in_err-give_out.ensures.fault; sockets = refl; ends = refl };
    }))))

pub returns-in_err-ready-clause-fault : goal.returns-in_err-ready-clause-fault
returns-in_err-ready-clause-fault g c =
    failed c.from_residual-in_err-ready.result NoMemory
    (λ fault. IsBrokenTurn g.S.Sockets.accepts g.S.Readiness.watches g.S.Sockets.connects g.S.Sockets.reads g.S.Sockets.writes g.H.Handler.handles g.H.BridgeHandler.hears g.H.Handler.settles g.H.Handler.refuses g.H.BridgeHandler.declines g.H.Handler.stops c.args.setting.now c.args.at
    (site (place c.args.sockets.now (near c.args.handler.now c.args.clients.now.slab c.args.dialled.now) c.args.accepted.now) c.args.ready.now c.args.sought.now) c.look.new.sockets c.give_out.new.handler fault)
    c.from_residual-in_err-ready.ensures.1
    (inr (inr (inr (record {
      more = c.in_ok-more.more;
      taken = place c.take_in.new.sockets (near c.take_in.new.handler c.take_in.new.clients.slab c.take_in.new.dialled) c.take_in.new.accepted;
      takes_in = c.in_ok-more.ensures.ok;
      settled = reach c.decide.new.sockets (near c.decide.new.handler c.decide.new.clients.slab c.decide.new.dialled);
      sought = c.decide.new.sought;
      decides = c.in_ok-decide.ensures.ok;
      gives_out = record {
        given = reach c.give_out.new.sockets (near c.give_out.new.handler c.give_out.new.clients.slab c.give_out.new.dialled);
        gives_out = c.in_ok-give_out.ensures.ok;
        memory = refl;
        ends = refl;
      };
    }))))
