use Rattle.std.proofs.Common.{arith}
use Rattle.mqtt_access.proofs.Xors.{next_u, next_xor, whole}
use Rattle.mqtt_access.proofs.pbkdf2.pbkdf2_hmac_sha512.Goals as goal

pub loop-step-preserved : goal.loop-step-preserved
loop-step-preserved c =
    let password = c.args.password.now in
    let salt = c.args.salt.now in
    let last = next_u password salt c.loop-step.last c.hash-last-in-loop-step.result c.loop-step.step c.loop-step.auto.step c.loop-step.invariant.last (c.hash-last-in-loop-step.ensures password c.new-key.ensures) in
    record { last = last; derived = next_xor password salt c.loop-step.derived c.hash-last-in-loop-step.result c.xor_into.new.bytes c.loop-step.step c.loop-step.auto.step c.loop-step.invariant.derived last c.xor_into.ensures }

pub returns : goal.returns
returns c = whole c.args.password.now c.args.salt.now c.loop-step.derived c.args.iterations c.loop-step.step c.requires (omega (arith, c.loop-step.auto.step-end, c.loop-step-test.false)) c.loop-step.invariant.derived
