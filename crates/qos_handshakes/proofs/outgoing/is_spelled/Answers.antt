use Rattle.qos_handshakes.proofs.SpelledLaws.{spelled}
use Rattle.qos_handshakes.proofs.outgoing.is_spelled.Goals as goal

pub returns : goal.returns
returns c = spelled c.args.now c.args.limit c.args.id c.packet_length-length.result c.args.dup c.args.delivery.now c.requires.can c.requires.limit c.has_spelling.ensures c.packet_length-length.ensures c.sent_is_spelled.ensures
