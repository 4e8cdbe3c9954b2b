use Rattle.door_guard.proofs.Meets.{met_open, met_started, met_tick}
use Rattle.door_guard.proofs.Told.{if_ok}
use Rattle.door_guard.proofs.answer.take.Goals as goal

pub returns-in-Started-clause-ok : goal.returns-in-Started-clause-ok
returns-in-Started-clause-ok g c =
    if_ok c.pass.result
    (met_started g.H.Handler.handles (g.A.Access.rights c.args.access.now) c.args.at c.args.kind c.args.inside.now c.pass.new.inside c.args.known.now.clients c.pass.new.known.clients (c.args.known.now.refusals, c.args.outputs.now.items) (c.pass.new.known.refusals, c.pass.new.outputs.items) c.in-Started.is)
    c.pass.ensures.ok

pub returns-in-Tick-clause-ok : goal.returns-in-Tick-clause-ok
returns-in-Tick-clause-ok g c =
    if_ok c.pass-in-Tick.result
    (met_tick g.H.Handler.handles (g.A.Access.rights c.args.access.now) c.args.at c.args.kind c.args.inside.now c.pass-in-Tick.new.inside c.args.known.now.clients c.pass-in-Tick.new.known.clients (c.args.known.now.refusals, c.args.outputs.now.items) (c.pass-in-Tick.new.known.refusals, c.pass-in-Tick.new.outputs.items) c.in-Tick.is)
    c.pass-in-Tick.ensures.ok

pub returns-in_ok-put-in-Opened-clause-ok : goal.returns-in_ok-put-in-Opened-clause-ok
returns-in_ok-put-in-Opened-clause-ok g c =
    met_open g.H.Handler.handles (g.A.Access.rights c.args.access.now) c.args.at c.in-Opened.connection c.args.kind c.new.result c.args.inside.now c.args.known.now.clients c.put.new.self (c.args.known.now.refusals, c.args.outputs.now.items) c.in-Opened.is c.new.ensures c.in_ok-put-in-Opened.ensures
