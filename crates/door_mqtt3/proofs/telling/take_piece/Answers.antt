use Rattle.door_mqtt3.proofs.ToldLaws.{piece_taken}
use Rattle.door_mqtt3.proofs.telling.take_piece.Goals as goal

pub returns-clause-ok : goal.returns-clause-ok
returns-clause-ok g c =
    piece_taken g.H.Handler.handles c.args.at c.args.connection c.args.piece c.in_ok-taken.taken c.args.inside.now c.tell_piece.new.inside c.args.clients.now c.come.new.self c.tell_piece.new.clients
    c.args.outputs.now.items c.put_sent.new.outputs.items c.tell_piece.new.outputs.items c.in_ok-taken.ensures c.in_ok-put_sent.ensures c.in_ok-tell_piece.ensures.ok
