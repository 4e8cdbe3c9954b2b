use Rattle.door_mqtt3.proofs.ToldLaws.{stopped_telling}
use Rattle.door_mqtt3.proofs.telling.end_all.Goals as goal

pub returns-in-Err-clause-fault : goal.returns-in-Err-clause-fault
returns-in-Err-clause-fault g c =
    stopped_telling g.H.Handler.handles g.H.Handler.refuses c.args.at c.in-Err.fault c.args.inside.now c.loop-connection.inside c.end_one.new.inside c.args.clients.now c.loop-connection.clients
    c.args.outputs.now.items c.loop-connection.outputs.items c.loop-connection.invariant c.in-Err.ensures.fault
