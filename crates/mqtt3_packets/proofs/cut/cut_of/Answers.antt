use Rattle.std.proofs.Common.{arith}
use Rattle.mqtt3_packets.proofs.CutLaws.{made_of}
use Rattle.mqtt3_packets.proofs.cut.cut_of.Goals as goal

pub returns-in-Ok : goal.returns-in-Ok
returns-in-Ok c = made_of c.args.flags c.args.bytes.now c.in-Ok.front.now c.in-Ok.payload.now (λ i. omega (arith, c.type_inv.bytes i)) c.in-Ok.ensures
