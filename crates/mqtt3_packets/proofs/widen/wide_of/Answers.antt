use Rattle.std.proofs.Common.{arith}
use Rattle.mqtt3_packets.proofs.WidenLaws.{wide_is}
use Rattle.mqtt3_packets.proofs.widen.wide_of.Goals as goal

pub returns-in-Ok-clause-wide : goal.returns-in-Ok-clause-wide
returns-in-Ok-clause-wide c = wide_is c.args.flags c.args.bytes.now c.in-Ok.front.now c.in-Ok.identifier c.in-Ok.payload.now (λ i. omega (arith, c.type_inv.bytes i)) c.in-Ok.ensures.exact
