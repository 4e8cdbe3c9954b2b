use Rattle.std.proofs.Common.{arith}
use Rattle.mqtt_packets.proofs.StreamLaws.{is_found, is_only}
use Rattle.mqtt_packets.proofs.FaultLaws.{is_waiting}
use Rattle.mqtt_packets.proofs.stream.read_packet.Goals as goal

pub returns-clause-found : goal.returns-clause-found
returns-clause-found c = is_found c.args.bytes.now _ (λ i. omega (arith, c.type_inv.bytes i)) c.read_exactly.ensures.used c.read_exactly.ensures.exact

pub returns-clause-only : goal.returns-clause-only
returns-clause-only c = is_only c.args.bytes.now _ c.read_exactly.ensures.exact

pub returns-clause-waits : goal.returns-clause-waits
returns-clause-waits c = is_waiting c.args.bytes.now _ (λ i. omega (arith, c.type_inv.bytes i)) c.read_exactly.ensures.exact
