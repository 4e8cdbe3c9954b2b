use Rattle.std.proofs.Common.{◌+◌, ◌<◌, length, vec_len, vec_capacity, arith}
use Rattle.std.specs.Prelude.{flat_map}
use Rattle.mqtt_fields.specs.Numbers.{text}
use Rattle.mqtt_packets.proofs.MeasureLaws.{length_least, on_err}
use Rattle.mqtt_packets.proofs.unsubscribe.put_filters.Goals as goal

pub returns-in_err-write-clause-full : goal.returns-in_err-write-clause-full
returns-in_err-write-clause-full c =
    let least = length_least text.bytes c.args.filters.now c.loop-filter.filter-index c.filter-item.result c.loop-filter-test.true c.filter-item.is in
    let long : vec_capacity c.args.out.now < vec_len c.args.out.now + length (flat_map text.bytes c.args.filters.now) = omega (arith, c.loop-filter.invariant.len, c.loop-filter.invariant.capacity, c.in_err-write.ensures.full) in
    on_err c.from_residual.result _ long
