use Rattle.std.proofs.Common.{arith}
use Rattle.mqtt_packets.proofs.StreamLaws.{used}
use Rattle.mqtt_packets.proofs.stream.read_exactly.Goals as goal

pub overflow_sub-result : goal.overflow_sub-result
overflow_sub-result c =
    let e = rw c.in-Some.is at c.in_ok-packet_of.ensures.exact in
    (used c.args.bytes.now (c.in-Some.packet, c.in-Some.rest.now) (λ i. omega (arith, c.type_inv.bytes i)) e).0

pub returns-in-Some-clause-exact : goal.returns-in-Some-clause-exact
returns-in-Some-clause-exact c =
    let e = rw c.in-Some.is at c.in_ok-packet_of.ensures.exact in
    rw (used c.args.bytes.now (c.in-Some.packet, c.in-Some.rest.now) (λ i. omega (arith, c.type_inv.bytes i)) e).1 e
