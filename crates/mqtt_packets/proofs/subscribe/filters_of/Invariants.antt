use Rattle.std.proofs.Common.{◌≡◌, [], length}
use Rattle.mqtt_packets.specs.Subscribe.{subscribe_filter}
use Rattle.mqtt_fields.proofs.Laws.{IsBytes}
use Rattle.mqtt_packets.specs.Body.{many_at}
use Rattle.mqtt_packets.proofs.MemoryLaws.{Began}
use Rattle.mqtt_packets.proofs.subscribe.filters_of.Given as goal

abbrev pub invariant-loop-rest : goal.invariant-loop-rest
invariant-loop-rest l = record { bytes : IsBytes l.rest; so_far : many_at subscribe_filter (length l.rest) l.items.items l.rest ≡ many_at subscribe_filter (length l.bytes) [] l.bytes; began : Began l.rest l.bytes }

abbrev pub decreases-loop-rest : goal.decreases-loop-rest
decreases-loop-rest l = length l.rest
