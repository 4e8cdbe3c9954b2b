use Rattle.std.proofs.Common.{sym, ◌∙◌}
use Rattle.door_mqtt3.proofs.ToldLaws.{telling_last}
use Rattle.door_mqtt3.proofs.telling.end_one.Goals as goal

pub returns-clause-ok : goal.returns-clause-ok
returns-clause-ok g c =
    telling_last g.H.Handler.handles c.args.at c.args.connection c.in_ok-no_packet.field-0 c.piece_at-event.result c.args.inside.now c.tell_one.new.inside c.args.clients.now c.tell_one.new.clients
    c.args.outputs.now.items c.tell_one.new.outputs.items (sym c.has_ended.ensures ∙ c.if-not-has_ended.false) c.in_ok-no_packet.ensures c.piece_at-event.ensures c.in_ok-tell_one.ensures.ok
