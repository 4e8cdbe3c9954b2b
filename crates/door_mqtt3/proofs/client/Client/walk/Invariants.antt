use Rattle.std.proofs.Common.{length}
use Rattle.mqtt3_packets.specs.Stream.{IsRest}
use Rattle.door_mqtt3.specs.Client.{walk}
use Rattle.door_mqtt3.proofs.Walking.{IsWalking}
use Rattle.door_mqtt3.proofs.client.Client.walk.Given as goal

abbrev pub invariant-loop-count : goal.invariant-loop-count
invariant-loop-count l = record {
  last : IsRest l.bytes l.rest;
  walking : IsWalking (walk l.order l.fn.self l.bytes) (length l.bytes) l.order l.count l.self l.rest l.fn.taken l.taken;
}
