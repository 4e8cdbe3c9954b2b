use Rattle.std.proofs.Common.{ap, sym, subst}
use Rattle.mqtt_packets.specs.Written.{HasSpelling}
use Rattle.mqtt_sessions.specs.Reaction.{packet_of}
use Rattle.node_work.specs.Held.Sessions.{packet_output}
use Rattle.node_work.specs.View.{WorkView}
use Rattle.node_work.proofs.Calling.{sends_next}
use Rattle.node_work.proofs.Spelled.{item_of}
use Rattle.node_work.proofs.work.Work.send_each.Goals as goal

pub send_one-requires : goal.send_one-requires
send_one-requires c =
    subst (λ n. HasSpelling (packet_of n c.packet-item.result)) (sym (ap (λ (v : WorkView). v.held.at) c.loop-packet.invariant))
    (item_of (λ o. HasSpelling (packet_of c.args.self.now.held.at o)) c.args.packets.now c.loop-packet.packet-index c.packet-item.result c.loop-packet-test.true c.packet-item.is c.requires)

pub loop-packet-preserved : goal.loop-packet-preserved
loop-packet-preserved c =
    sends_next (packet_output c.args.connection) c.args.self.now c.loop-packet.self c.send_one.new.self c.args.packets.now c.loop-packet.packet-index c.packet-item.result
    c.loop-packet-test.true c.packet-item.is c.loop-packet.invariant c.in_ok-send_one.ensures.ok
