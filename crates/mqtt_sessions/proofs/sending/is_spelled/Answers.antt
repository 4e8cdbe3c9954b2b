use Rattle.mqtt_sessions.proofs.ReactionLaws.{once_spelled}
use Rattle.mqtt_sessions.proofs.sending.is_spelled.Goals as goal

pub returns : goal.returns
returns c =
    once_spelled c.args.now c.args.limit c.packet_length-length.result c.args.delivery.now c.requires.once c.requires.taken c.requires.limit c.has_spelling.ensures c.packet_length-length.ensures c.sent_is_spelled.ensures
