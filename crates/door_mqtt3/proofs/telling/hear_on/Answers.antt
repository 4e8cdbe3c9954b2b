use Rattle.door_mqtt3.proofs.ToldLaws.{declined_on}
use Rattle.door_mqtt3.proofs.telling.hear_on.Goals as goal

pub returns-in-Err-give_on-clause-fault : goal.returns-in-Err-give_on-clause-fault
returns-in-Err-give_on-clause-fault g c =
    declined_on g.H.Handler.handles g.H.Handler.refuses g.H.BridgeHandler.hears g.H.BridgeHandler.declines c.args.event c.in-Err-give_on.fault c.args.inside.now c.hear.new.self c.give_on.new.inside
    c.in-Ok.given c.in-Ok.ensures.ok c.in-Err-give_on.ensures.fault
