use Rattle.std.proofs.Common.{◌≡◌, length}
use Rattle.mqtt_fields.proofs.Laws.{IsBytes}
use Rattle.mqtt_packets.specs.Stream.{cut, before}
use Rattle.mqtt_packets.proofs.MemoryLaws.{HasBegun}
use Rattle.mqtt_packets.proofs.framer.cut_after.Given as goal

abbrev pub invariant-loop-packet : goal.invariant-loop-packet
invariant-loop-packet l = record { bytes : IsBytes l.rest; so_far : before l.packets.items (cut l.limit l.rest) ≡ before l.initial.packets.items (cut l.limit l.bytes); began : HasBegun l.limit l.rest l.bytes }

abbrev pub decreases-loop-packet : goal.decreases-loop-packet
decreases-loop-packet l = length l.rest
