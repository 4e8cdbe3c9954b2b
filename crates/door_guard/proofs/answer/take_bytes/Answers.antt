use Rattle.std.proofs.Common.{ℕ, List, ap, ◌∙◌}
use Rattle.door_packets.specs.Marks.{is_marked}
use Rattle.door_packets.specs.Coming.{come}
use Rattle.door_guard.proofs.Meets.{came_none, came_some}
use Rattle.door_guard.proofs.Told.{if_ok}
use Rattle.door_guard.proofs.answer.take_bytes.Goals as goal

pub returns-in-None-clause-ok : goal.returns-in-None-clause-ok
returns-in-None-clause-ok g c =
    came_none g.H.Handler.handles (g.A.Access.rights c.args.access.now) c.args.place.0 c.args.place.1 c.args.bytes c.args.inside.now c.args.known.now.clients c.take.new.self (c.args.known.now.refusals, c.args.outputs.now.items) c.in-None.ensures.found c.take.ensures.left

pub returns-clause-ok : goal.returns-clause-ok
returns-clause-ok g c =
    let rights = g.A.Access.rights c.args.access.now in
    let marked = is_marked c.args.known.now.marks in
    if_ok c.do_steps.result
    (came_some g.H.Handler.handles rights c.args.place.0 c.args.place.1 c.args.bytes marked c.in-Some.client c.in_ok-walk-in-Some.walk.client c.in_ok-walk-in-Some.walk.steps.items c.args.inside.now c.do_steps.new.inside
    c.args.known.now.clients c.take.new.self c.put.new.self c.do_steps.new.known.clients (c.args.known.now.refusals, c.args.outputs.now.items) (c.do_steps.new.known.refusals, c.do_steps.new.outputs.items) c.in-Some.ensures.found c.take.ensures.left
    (c.in_ok-walk-in-Some.ensures ∙ ap (λ (bs : List ℕ). come rights marked c.in-Some.client bs) c.deref-in-Some.ensures.value) c.in_ok-put-in-Some.ensures)
    c.do_steps.ensures.ok
