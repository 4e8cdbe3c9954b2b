use Rattle.std.proofs.Common.{◌≡◌, ◌<◌, ◌^◌, take, length, arith}
use Rattle.mqtt_fields.specs.Value.{value_bytes}
use Rattle.mqtt_fields.specs.Block.{properties_bytes}
use Rattle.mqtt_fields.proofs.LengthLaws.{length_least}
use Rattle.mqtt_fields.proofs.block.block_len.Goals as goal

pub overflow_add-total-in-loop-p : goal.overflow_add-total-in-loop-p
overflow_add-total-in-loop-p c =
    let e = rw c.unwrap.ensures at c.value_len.ensures.exact in
    let one : c.unwrap.result ≡ length (value_bytes c.p-item.result.value) = e.1 in
    let least = length_least c.args.ps.now c.loop-p.p-index c.p-item.result c.loop-p-test.true c.p-item.is in
    let sum : c.loop-p.total ≡ length (properties_bytes (take c.loop-p.p-index c.args.ps.now)) = c.loop-p.invariant in
    let small : length (properties_bytes c.args.ps.now) < 2 ^ 28 = c.requires.0 in
    omega arith
