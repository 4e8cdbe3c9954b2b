use Rattle.std.proofs.Common.{arith}
use Rattle.mqtt_fields.proofs.LengthLaws.{length_least}
use Rattle.mqtt_fields.proofs.block.put_properties.Goals as goal

pub push_reserved-requires : goal.push_reserved-requires
push_reserved-requires c =
    let least = length_least c.args.ps.now c.loop-p.p-index c.p-item.result c.loop-p-test.true c.p-item.is in
    omega (arith, c.loop-p.invariant.len, c.requires.room)

pub put_value-requires-clause-room : goal.put_value-requires-clause-room
put_value-requires-clause-room c =
    let least = length_least c.args.ps.now c.loop-p.p-index c.p-item.result c.loop-p-test.true c.p-item.is in
    omega (arith, c.loop-p.invariant.len, c.requires.room, c.push_reserved.ensures.len)
