use Rattle.std.proofs.Common.{◌+◌, ◌<◌, length, vec_len, vec_capacity, arith}
use Rattle.std.specs.Prelude.{flat_map}
use Rattle.mqtt_packets.specs.Subscribe.{subscribe_filter}
use Rattle.mqtt_packets.proofs.MeasureLaws.{length_least, on_err}
use Rattle.mqtt_packets.proofs.subscribe.put_filters.Goals as goal

pub returns-in_err-put_filter-clause-full : goal.returns-in_err-put_filter-clause-full
returns-in_err-put_filter-clause-full c =
    let least = length_least subscribe_filter.bytes c.args.filters.now c.loop-f.f-index c.f-item.result c.loop-f-test.true c.f-item.is in
    let long : vec_capacity c.args.out.now < vec_len c.args.out.now + length (flat_map subscribe_filter.bytes c.args.filters.now) = omega (arith, c.loop-f.invariant.len, c.loop-f.invariant.capacity, c.in_err-put_filter.ensures.full) in
    on_err c.from_residual.result _ long
