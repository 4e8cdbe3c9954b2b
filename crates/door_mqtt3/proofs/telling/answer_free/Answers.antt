use Rattle.door_mqtt3.proofs.ToldLaws.{translated_told}
use Rattle.door_mqtt3.proofs.telling.answer_free.Goals as goal

pub returns-clause-ok : goal.returns-clause-ok
returns-clause-ok g c =
    translated_told g.H.Handler.handles c.args.event c.args.inside.now c.tell.new.inside c.args.clients.now c.meet.new.clients c.tell.new.clients
    c.new-outputs.result.items c.tell.new.outputs.items c.requires c.new-outputs.ensures.items c.in_ok-meet.ensures c.in_ok-tell.ensures.ok
