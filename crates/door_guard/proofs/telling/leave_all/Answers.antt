use Rattle.door_guard.specs.Telling.{none}
use Rattle.door_guard.proofs.Faults.{stopped_met}
use Rattle.door_guard.proofs.telling.leave_all.Goals as goal

pub returns-in-Err-clause-fault : goal.returns-in-Err-clause-fault
returns-in-Err-clause-fault g c =
    stopped_met g.H.Handler.handles g.H.Handler.refuses (g.A.Access.rights c.args.access.now) c.args.at none c.in-Err.fault c.args.inside.now c.loop-connection.inside c.leave_one.new.inside c.args.known.now.clients c.loop-connection.known.clients
    (c.args.known.now.refusals, c.args.outputs.now.items) (c.loop-connection.known.refusals, c.loop-connection.outputs.items) c.loop-connection.invariant c.in-Err.ensures.fault
