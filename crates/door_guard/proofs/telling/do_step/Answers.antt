use Rattle.std.proofs.Common.{sym, ◌∙◌}
use Rattle.door_guard.proofs.Steps.{done_acks, done_asks, done_subacks, done_turns}
use Rattle.door_guard.proofs.Told.{if_ok}
use Rattle.door_guard.proofs.telling.do_step.Goals as goal

pub returns-in_ok-send-in-Acks-clause-ok : goal.returns-in_ok-send-in-Acks-clause-ok
returns-in_ok-send-in-Acks-clause-ok g c =
    done_acks g.H.Handler.handles (g.A.Access.rights c.args.access.now) c.args.place.0 c.args.place.1 c.in-Acks.bytes c.into_vec.result c.args.inside.now c.args.known.now.clients c.args.known.now.refusals c.note.new.self
    c.args.outputs.now.items c.send.new.outputs.items c.args.step c.in-Acks.is c.into_vec.ensures (sym c.is_live.ensures ∙ c.if-not-is_live.false) c.note.ensures c.in_ok-send-in-Acks.ensures

pub returns-in_ok-send-in-Subacks-clause-ok : goal.returns-in_ok-send-in-Subacks-clause-ok
returns-in_ok-send-in-Subacks-clause-ok g c =
    done_subacks g.H.Handler.handles (g.A.Access.rights c.args.access.now) c.args.place.0 c.args.place.1 c.in-Subacks.bytes c.in-Subacks.field-1 c.into_vec-in-Subacks.result c.args.inside.now c.args.known.now.clients
    c.args.known.now.refusals c.note.new.self c.args.outputs.now.items c.send-in-Subacks.new.outputs.items c.args.step c.in-Subacks.is c.into_vec-in-Subacks.ensures (sym c.is_live.ensures ∙ c.if-not-is_live.false) c.note.ensures
    c.in_ok-send-in-Subacks.ensures

pub returns-in_ok-turn_away-in-TurnsAway-clause-ok : goal.returns-in_ok-turn_away-in-TurnsAway-clause-ok
returns-in_ok-turn_away-in-TurnsAway-clause-ok g c =
    done_turns g.H.Handler.handles (g.A.Access.rights c.args.access.now) c.args.place.0 c.args.place.1 c.in-TurnsAway.code c.args.inside.now c.args.known.now.clients c.turn_away.new.known.clients c.args.known.now.refusals c.note.new.self
    c.turn_away.new.known.refusals c.args.outputs.now.items c.turn_away.new.outputs.items c.args.step c.in-TurnsAway.is (sym c.is_live.ensures ∙ c.if-not-is_live.false) c.note.ensures c.in_ok-turn_away-in-TurnsAway.ensures.counts
    c.in_ok-turn_away-in-TurnsAway.ensures.turned

pub returns-in-Asks-clause-ok : goal.returns-in-Asks-clause-ok
returns-in-Asks-clause-ok g c =
    if_ok c.ask.result
    (done_asks g.H.Handler.handles (g.A.Access.rights c.args.access.now) c.args.place.0 c.args.place.1 c.in-Asks.packet c.in-Asks.awaited c.args.inside.now c.ask.new.inside c.args.known.now.clients c.ask.new.known.clients
    c.args.known.now.refusals c.note.new.self c.args.outputs.now.items (c.ask.new.known.refusals, c.ask.new.outputs.items) c.args.step c.in-Asks.is (sym c.is_live.ensures ∙ c.if-not-is_live.false) c.note.ensures)
    c.ask.ensures.ok
