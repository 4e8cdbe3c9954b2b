use Rattle.std.proofs.Common.{arith, ap, ◌∙◌}
use Rattle.mqtt_packets.specs.Stream.{kept}
use Rattle.mqtt_fields.specs.Field.{IsBytes}
use Rattle.mqtt_packets.proofs.GrowLaws.{IsBytes-both, goes_past}
use Rattle.mqtt_packets.proofs.framer.fed_on.Goals as goal

pub returns-clause-cut : goal.returns-clause-cut
returns-clause-cut c =
    let held : IsBytes c.args.held.now = λ i. omega (arith, c.type_inv.held i) in
    let piece : IsBytes c.args.piece.now = λ i. omega (arith, c.type_inv.piece i) in
    let whole = rw c.in-Some.is at c.in_ok-packet.ensures.whole in
    let packets = rw c.new-packets.ensures.items at c.in_ok-push.ensures.items in
    ap kept (goes_past c.args.limit c.args.held.now c.args.piece.now c.in-Some.packet held (IsBytes-both _ _ held piece) whole)
    ∙ rw packets at c.in_ok-fed.ensures.cut
