use Rattle.door_mqtt3.proofs.ToldLaws.{owed_none, owed_told}
use Rattle.door_mqtt3.proofs.telling.tell_piece.Goals as goal

pub returns-clause-ok : goal.returns-clause-ok
returns-clause-ok g c =
    owed_told g.H.Handler.handles c.args.at c.args.connection c.args.told c.piece_at-event.result c.args.inside.now c.tell.new.inside c.args.clients.now c.tell.new.clients
    c.args.outputs.now.items c.tell.new.outputs.items c.piece_at-event.ensures c.in_ok-tell.ensures.ok

pub returns-then-is_empty-clause-ok : goal.returns-then-is_empty-clause-ok
returns-then-is_empty-clause-ok g c =
    owed_none g.H.Handler.handles c.args.at c.args.connection c.args.told c.args.inside.now c.args.clients.now c.args.outputs.now.items (cc (c.is_empty.ensures, c.if-is_empty.true))
