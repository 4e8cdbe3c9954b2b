use Rattle.door_guard.proofs.Faults.{refusing_one}
use Rattle.door_guard.proofs.telling.tell.Goals as goal

pub returns-in-Err-clause-fault : goal.returns-in-Err-clause-fault
returns-in-Err-clause-fault g c =
    refusing_one g.H.Handler.handles g.H.Handler.refuses _ c.in-Err.fault c.args.inside.now c.handle.new.self c.in-Err.ensures.fault
