use Rattle.mqtt_packets.specs.Written.{HasSpelling}
use Rattle.node_work.specs.Working.{Each}
use Rattle.node_work.proofs.Spelled.{item_of}
use Rattle.node_work.proofs.Working.{each_next, each_stops, each_ends}
use Rattle.node_clients.specs.Pieces.{AnswersIfOpen}
use Rattle.node_clients.proofs.piece.answer_each.Goals as goal

pub answer_if_open-requires : goal.answer_if_open-requires
answer_if_open-requires c = item_of HasSpelling c.args.packets.now c.loop-packet.packet-index c.packet-item.result c.loop-packet-test.true c.packet-item.is c.requires

pub returns-in_err-answer_if_open : goal.returns-in_err-answer_if_open
returns-in_err-answer_if_open c =
    let One = AnswersIfOpen c.args.connection in
    let x = c.packet-item.result in
    each_stops One (λ y. y) (λ y. y) c.args.work.now c.loop-packet.work c.answer_if_open.new.work (Each One c.args.packets.now) c.args.packets.now c.loop-packet.packet-index x x
    c.loop-packet-test.true c.packet-item.is c.loop-packet.invariant c.from_residual.result c.in_err-answer_if_open.field-0.0 c.from_residual.ensures.1 c.in_err-answer_if_open.ensures

pub loop-packet-preserved : goal.loop-packet-preserved
loop-packet-preserved c =
    let One = AnswersIfOpen c.args.connection in
    let x = c.packet-item.result in
    each_next One c.args.work.now c.loop-packet.work c.answer_if_open.new.work (Each One c.args.packets.now) c.args.packets.now c.loop-packet.packet-index x x
    c.loop-packet-test.true c.packet-item.is c.loop-packet.invariant c.in_ok-answer_if_open.ensures

pub returns : goal.returns
returns c =
    let One = AnswersIfOpen c.args.connection in
    each_ends One c.args.work.now c.loop-packet.work (Each One c.args.packets.now) c.args.packets.now c.loop-packet.packet-index c.loop-packet-test.false c.loop-packet.invariant
