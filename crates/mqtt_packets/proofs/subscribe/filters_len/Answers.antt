use Rattle.std.proofs.Common.{arith}
use Rattle.mqtt_packets.specs.Subscribe.{subscribe_filter}
use Rattle.mqtt_packets.proofs.MeasureLaws.{no_room}
use Rattle.mqtt_packets.proofs.subscribe.filters_len.Goals as goal

pub returns-then-n-total : goal.returns-then-n-total
returns-then-n-total c = no_room subscribe_filter c.args.filters.now c.loop-f.f-index c.f-item.result c.loop-f-test.true c.f-item.is (omega (arith, c.in-Some.ensures.exact.1))
