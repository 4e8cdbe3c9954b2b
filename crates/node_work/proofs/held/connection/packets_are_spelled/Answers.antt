use Rattle.std.proofs.Common.{arith}
use Rattle.mqtt_fields.specs.Field.{IsBytes}
use Rattle.mqtt_packets.proofs.GrowLaws.{IsBytes-both}
use Rattle.node_work.proofs.Spelled.{cut_spelled}
use Rattle.node_work.proofs.held.connection.packets_are_spelled.Goals as goal

pub returns : goal.returns
returns c =
    let held : IsBytes c.args.held.now = λ i. omega (arith, c.type_inv.held i) in
    let piece : IsBytes c.args.piece.now = λ i. omega (arith, c.type_inv.piece i) in
    λ limit. cut_spelled limit _ (IsBytes-both _ _ held piece)
