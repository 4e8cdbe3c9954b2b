use Rattle.std.proofs.Common.{refl}
use Rattle.door_guard.proofs.Meets.{answered}
use Rattle.door_guard.proofs.answer.answer.Goals as goal

pub returns-clause-ok : goal.returns-clause-ok
returns-clause-ok g c =
    answered g.H.Handler.handles (g.A.Access.rights c.args.access.now) c.args.event.at c.args.event c.args.event.kind c.args.inside.now c.leave_all.new.inside c.take.new.inside c.args.known.now.clients c.leave_all.new.known.clients
    c.take.new.known.clients c.args.known.now.refusals c.new-outputs.result.items (c.leave_all.new.known.refusals, c.leave_all.new.outputs.items) (c.take.new.known.refusals, c.take.new.outputs.items) refl refl c.new-outputs.ensures.items c.in_ok-leave_all.ensures.ok c.in_ok-take.ensures.ok
