use Rattle.door_guard.proofs.Meets.{spaced_kept, spaced_leaving, spaced_none, spaced_open, spaced_over}
use Rattle.door_guard.proofs.Told.{if_ok}
use Rattle.door_guard.proofs.answer.space.Goals as goal

pub returns-in-None-clause-ok : goal.returns-in-None-clause-ok
returns-in-None-clause-ok g c =
    spaced_none g.H.Handler.handles (g.A.Access.rights c.args.access.now) c.args.place.0 c.args.place.1 c.args.bytes c.args.inside.now c.args.known.now.clients (c.args.known.now.refusals, c.args.outputs.now.items) c.in-None.ensures

pub returns-in-Some-Leaving-clause-ok : goal.returns-in-Some-Leaving-clause-ok
returns-in-Some-Leaving-clause-ok g c =
    spaced_leaving g.H.Handler.handles (g.A.Access.rights c.args.access.now) c.args.place.0 c.args.place.1 c.args.bytes c.args.inside.now c.args.known.now.clients (c.args.known.now.refusals, c.args.outputs.now.items)
    (rw c.in-Some-Leaving.field-0-is at c.in-Some-Leaving.ensures)

pub returns-in_ok-restage-in-Some-Waiting-clause-ok : goal.returns-in_ok-restage-in-Some-Waiting-clause-ok
returns-in_ok-restage-in-Some-Waiting-clause-ok g c =
    spaced_kept g.H.Handler.handles (g.A.Access.rights c.args.access.now) c.args.place.0 c.args.place.1 c.args.bytes c.in-Some-Waiting.field-0-0 c.args.inside.now c.args.known.now.clients c.restage.new.self (c.args.known.now.refusals, c.args.outputs.now.items)
    (rw c.in-Some-Waiting.field-0-is at c.in-Some-Waiting.ensures) c.in_ok-restage-in-Some-Waiting.ensures

pub returns-in-Some-Open-clause-ok : goal.returns-in-Some-Open-clause-ok
returns-in-Some-Open-clause-ok g c =
    if_ok c.pass.result
    (spaced_open g.H.Handler.handles (g.A.Access.rights c.args.access.now) c.args.place.0 c.args.place.1 c.args.bytes c.args.inside.now c.pass.new.inside c.args.known.now.clients c.pass.new.known.clients (c.args.known.now.refusals, c.args.outputs.now.items) (c.pass.new.known.refusals, c.pass.new.outputs.items)
    (rw c.in-Some-Open.field-0-is at c.in-Some-Open.ensures))
    c.pass.ensures.ok

pub returns-in-Some-Over-clause-ok : goal.returns-in-Some-Over-clause-ok
returns-in-Some-Over-clause-ok g c =
    if_ok c.pass-in-Some-Over.result
    (spaced_over g.H.Handler.handles (g.A.Access.rights c.args.access.now) c.args.place.0 c.args.place.1 c.args.bytes c.args.inside.now c.pass-in-Some-Over.new.inside c.args.known.now.clients c.pass-in-Some-Over.new.known.clients (c.args.known.now.refusals, c.args.outputs.now.items) (c.pass-in-Some-Over.new.known.refusals, c.pass-in-Some-Over.new.outputs.items)
    (rw c.in-Some-Over.field-0-is at c.in-Some-Over.ensures))
    c.pass-in-Some-Over.ensures.ok
