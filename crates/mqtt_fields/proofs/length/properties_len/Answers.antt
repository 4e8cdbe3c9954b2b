use Rattle.std.proofs.Common.{◌≡◌, ◌<◌, ◌^◌, take, length, arith}
use Rattle.mqtt_fields.specs.Block.{properties, property_bytes, properties_bytes}
use Rattle.mqtt_fields.proofs.LengthLaws.{no_stand, stand_more, length_more, length_least}
use Rattle.mqtt_fields.proofs.length.properties_len.Goals as goal

pub returns-in_err-len : goal.returns-in_err-len
unfolding properties
returns-in_err-len c = rw c.from_residual.ensures (λ h. no_stand c.args.place c.args.ps.now c.loop-i.i c.index-ps-i.result (omega arith) c.index-ps-i.is (λ f. c.in_err-len.ensures.exact f) h.1)

pub returns-then-len-total : goal.returns-then-len-total
unfolding properties
returns-then-len-total c = λ h.
    let least = length_least c.args.ps.now c.loop-i.i c.index-ps-i.result (omega arith) c.index-ps-i.is in
    let same : c.in_ok-len.len ≡ length (property_bytes c.index-ps-i.result) = c.in_ok-len.ensures.exact.1 in
    let sum : c.loop-i.total ≡ length (properties_bytes (take c.loop-i.i c.args.ps.now)) = c.loop-i.invariant.sum in
    let room : length (properties_bytes c.args.ps.now) < 2 ^ 28 = h.0 in
    absurd (omega (arith, c.if-len-total.true))

pub loop-i-preserved : goal.loop-i-preserved
loop-i-preserved c =
    let same : c.in_ok-len.len ≡ length (property_bytes c.index-ps-i.result) = c.in_ok-len.ensures.exact.1 in
    let sum : c.loop-i.total ≡ length (properties_bytes (take c.loop-i.i c.args.ps.now)) = c.loop-i.invariant.sum in
    record {
      stand = stand_more c.args.place c.args.ps.now c.loop-i.i c.index-ps-i.result (omega arith) c.index-ps-i.is c.loop-i.invariant.stand c.in_ok-len.ensures.exact.0;
      sum = omega (arith, length_more c.args.ps.now c.loop-i.i c.index-ps-i.result (omega arith) c.index-ps-i.is);
      small = omega (arith, c.if-len-total.false, c.loop-i.invariant.small);
    }
