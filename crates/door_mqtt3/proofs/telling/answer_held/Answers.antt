use Rattle.std.proofs.Common.{refl}
use Rattle.door_mqtt3.proofs.ToldLaws.{translated_held}
use Rattle.door_mqtt3.proofs.telling.answer_held.Goals as goal

pub returns-in_ok-go_on-in-Piece-clause-ok : goal.returns-in_ok-go_on-in-Piece-clause-ok
returns-in_ok-go_on-in-Piece-clause-ok g c =
    translated_held g.H.Handler.handles c.args.event c.args.event.at c.in-Piece.connection c.in-Piece.bytes c.args.inside.now c.take_piece.new.inside c.go_on.new.inside
    c.args.clients.now c.take_piece.new.clients c.go_on.new.clients c.new-outputs.result.items c.take_piece.new.outputs.items c.go_on.new.outputs.items
    c.requires refl c.in-Piece.is c.new-outputs.ensures.items c.in_ok-take_piece-in-Piece.ensures.ok c.in_ok-go_on-in-Piece.ensures.ok
