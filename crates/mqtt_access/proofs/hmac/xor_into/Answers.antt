use Rattle.std.proofs.Common.{arith}
use Rattle.mqtt_access.proofs.Xors.{xor_is}
use Rattle.mqtt_access.proofs.hmac.xor_into.Goals as goal

pub returns : goal.returns
returns c = xor_is c.loop-i.bytes c.args.bytes.now c.args.others.now c.loop-i.invariant.len c.requires (λ k low. c.loop-i.invariant.done k (omega (arith, low, c.loop-i-test.false, c.loop-i.invariant.len)))
