use Rattle.std.proofs.Common.{arith}
use Rattle.mqtt_access.proofs.Xors.{filled_is, zeros, zeros_long}
use Rattle.mqtt_access.proofs.hmac.filled.Goals as goal

pub loop-i-init : goal.loop-i-init
loop-i-init c = record { len = zeros_long; done = λ k below. absurd (omega (arith, below)); left = λ k _ inside. zeros k inside }

pub returns : goal.returns
returns c = filled_is c.loop-i.block c.args.bytes.now c.loop-i.invariant.len c.requires (λ k low. c.loop-i.invariant.done k (omega (arith, low, c.loop-i-test.false))) (λ k high inside. c.loop-i.invariant.left k (omega (arith, high, c.loop-i-test.false, c.loop-i.auto.i-end)) inside)
