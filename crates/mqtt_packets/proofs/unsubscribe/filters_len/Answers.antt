use Rattle.std.proofs.Common.{arith}
use Rattle.mqtt_fields.specs.Numbers.{text}
use Rattle.mqtt_packets.proofs.MeasureLaws.{no_room}
use Rattle.mqtt_packets.proofs.unsubscribe.filters_len.Goals as goal

pub returns-then-n-total : goal.returns-then-n-total
returns-then-n-total c = no_room text c.args.filters.now c.loop-filter.filter-index c.filter-item.result c.loop-filter-test.true c.filter-item.is (omega (arith, c.text_len-n.ensures.exact))
